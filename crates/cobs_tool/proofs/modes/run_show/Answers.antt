-- The input was read, and the output of it was written, by the calls' clauses. Without this file, the prover's own search
-- would find the proofs too, but slowly.
use Rattle.std.proofs.Common.{arith}
use Rattle.std.proofs.lemmas.Grind.{common_steps}
use Rattle.cobs_tool.proofs.modes.run_show.Goals as goal

pub returns-clause-read : goal.returns-clause-read
returns-clause-read g c = grind (arith, common_steps)

pub returns-clause-shown : goal.returns-clause-shown
returns-clause-shown g c = grind (arith, common_steps)

pub returns-clause-unwritten : goal.returns-clause-unwritten
returns-clause-unwritten g c = grind (arith, common_steps)
