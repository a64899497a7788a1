-- The parts of the line are written one after another. Without this file, the prover's own search would find the proof
-- too, but slowly.
use Rattle.std.proofs.Common.{arith}
use Rattle.std.proofs.lemmas.Grind.{common_steps}
use Rattle.cobs_live.proofs.json.write_json.Goals as goal

pub returns : goal.returns
returns g c = grind (arith, common_steps)
