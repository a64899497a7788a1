-- `room` is the room for the frames of the messages before this one, and fits a `usize`.
use Rattle.std.proofs.Common.{◌≡◌, ◌<◌, ◌^◌, take}
use Rattle.cobs.specs.Messages.{messages_in, room_for_frames}
use Rattle.cobs.proofs.stream.encode_frames_room.Given as goal

abbrev pub invariant-by_message : goal.invariant-by_message
invariant-by_message l =
    record {
      room_is : l.room ≡ room_for_frames (messages_in (take l.message-index l.messages));
      fits : l.room < 2 ^ 64;
    }
