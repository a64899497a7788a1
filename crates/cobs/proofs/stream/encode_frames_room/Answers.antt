-- The sum of the rooms of the messages so far is at most the room for all messages (`room-some`). So if the sum doesn't
-- fit a `usize`, the room for all messages doesn't fit either.
use Rattle.std.proofs.Common.{arith}
use Rattle.std.proofs.lemmas.Grind.{common_steps}
use Rattle.cobs.proofs.format.MessagesLemmas.{room-some}
use Rattle.cobs.proofs.stream.encode_frames_room.Goals as goal

pub returns-in_err-room-clause-fits : goal.returns-in_err-room-clause-fits
returns-in_err-room-clause-fits c = grind (arith, room-some, common_steps)
