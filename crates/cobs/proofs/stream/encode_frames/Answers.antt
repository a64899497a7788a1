-- The stream that was written has the messages as its outcomes, by `AreFrames-outcomes`.
use Rattle.std.proofs.Common.{arith}
use Rattle.std.proofs.lemmas.Grind.{common_steps}
use Rattle.cobs.proofs.format.MessagesLemmas.{AreFrames-outcomes}
use Rattle.cobs.proofs.stream.encode_frames.Goals as goal

pub returns-clause-comes_back : goal.returns-clause-comes_back
returns-clause-comes_back c = grind (arith, common_steps, AreFrames-outcomes)
