-- The time, the number and the line are written one after another, as `in_view` has it for a piece that passes the
-- filter. Without this file, the prover's own search would find the proofs too, but slowly.
use Rattle.std.proofs.Common.{arith}
use Rattle.std.proofs.lemmas.Grind.{common_steps}
use Rattle.cobs_live.proofs.shown.show_piece.Goals as goal

pub returns : goal.returns
returns g c = grind (arith, common_steps)
