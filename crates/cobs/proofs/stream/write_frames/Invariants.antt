-- The frames of the messages so far are written, and they end within the room that was counted for them.
use Rattle.std.proofs.Common.{◌≤◌, take, length}
use Rattle.cobs.specs.Messages.{AreFrames, messages_in, room_for_frames}
use Rattle.cobs.proofs.stream.write_frames.Given as goal

abbrev pub invariant-by_message : goal.invariant-by_message
invariant-by_message l =
    let done = messages_in (take l.message-index l.messages) in
    record {
      frames : AreFrames done (take l.end l.dest);
      within : l.end ≤ room_for_frames done;
      in_dest : l.end ≤ length l.dest;
    }
