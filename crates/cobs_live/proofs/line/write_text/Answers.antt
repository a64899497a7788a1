-- The heading, the text and the newline are written one after another.
use Rattle.std.proofs.Common.{arith}
use Rattle.std.proofs.lemmas.Grind.{common_steps}
use Rattle.cobs_live.proofs.line.write_text.Goals as goal

pub returns : goal.returns
returns g c = grind (arith, common_steps)
