-- The vector is cut to the length that `encode_with_sentinel` returns, so that call's clauses hold for the vector.
-- Without these two answers, the prover's own search would take long.
use Rattle.std.proofs.Common.{arith}
use Rattle.std.proofs.lemmas.Grind.{common_steps}
use Rattle.cobs.proofs.enc.vector.encode_vec_with_sentinel.Goals as goal

pub returns-clause-frame : goal.returns-clause-frame
returns-clause-frame c = grind (arith, common_steps)

pub returns-clause-no_sentinel : goal.returns-clause-no_sentinel
returns-clause-no_sentinel c = grind (arith, common_steps)
