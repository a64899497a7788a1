-- A new encoder has taken nothing, by `start-taken`.
use Rattle.std.proofs.Common.{arith}
use Rattle.cobs.proofs.encoding.TakingLemmas.{start-taken}
use Rattle.cobs.proofs.enc.unbuffered.UnbufferedEncoder.new.Goals as goal

pub returns-clause-taken : goal.returns-clause-taken
returns-clause-taken c = grind (arith, start-taken)
