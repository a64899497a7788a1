-- By the clauses of `UnbufferedEncoder::new`, the progress of a new encoder is possible in the slice, and the encoder
-- has taken no byte.
use Rattle.std.proofs.Common.{arith}
use Rattle.cobs.proofs.enc.encoder.CobsEncoder.new.Goals as goal

-- the type's invariant: the encoder's progress is possible in the slice
pub invariant_of-result : goal.invariant_of-result
invariant_of-result c = grind arith

pub returns-clause-taken : goal.returns-clause-taken
returns-clause-taken c = grind arith
