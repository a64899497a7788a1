-- `room` is the room for the frames of the messages before the index.
use Rattle.std.proofs.Common.{◌≡◌, take}
use Rattle.cobs.specs.Messages.{messages_in, room_for_frames}
use Rattle.cobs_vectors.proofs.messages.encode_few.Given as goal

abbrev pub invariant-by_message : goal.invariant-by_message
invariant-by_message g l = l.room ≡ room_for_frames (messages_in (take l.message-index l.messages))
