-- Each message's frame has room in the rest of the slice (`room`, `fits`), and follows the frames that are written
-- (`AreFrames-push`).
use Rattle.std.proofs.Common.{◌≡◌, ◌+◌, ◌<◌, ◌≤◌, length, ap, arith}
use Rattle.std.proofs.lemmas.List.{length-set}
use Rattle.cobs.specs.Length.{encoded_len}
use Rattle.cobs.proofs.format.MessagesLemmas.{AreFrames-push, messages_in-more, room-step, written, room-some}
use Rattle.cobs.proofs.format.LengthLemmas.{encoded_len-le}
use Rattle.cobs.proofs.stream.write_frames.Goals.{After-deref, After-encode-len}
use Rattle.cobs.proofs.stream.write_frames.Goals as goal

-- there is room for the message's frame and a zero
room : (c : After-deref) → c.by_message.end + (encoded_len c.deref.result.now + 1) ≤ length c.by_message.dest
room c = grind (arith, room-step, room-some, encoded_len-le)

-- the frame fits the rest of the slice, as `encode` requires
pub encode-len-requires : goal.encode-len-requires
encode-len-requires c = grind (arith, room)

-- the frame and a zero fit after those that are written
fits : (c : After-encode-len) → (c.by_message.end + (c.encode-len.result + 1) ≤ length c.by_message.dest) × (c.by_message.end + length c.encode-len.new.dest ≡ length c.by_message.dest)
fits c = grind (arith, room-step, room-some, encoded_len-le)

-- the index of the zero fits a `usize`
pub overflow_add-dest : goal.overflow_add-dest
overflow_add-dest c = grind (arith, fits)

pub bounds-dest-end : goal.bounds-dest-end
-- the index of the zero is within the slice
bounds-dest-end c = grind (arith, fits)

-- one sum of `end += len + 1` fits a `usize`
pub overflow_add-end : goal.overflow_add-end
overflow_add-end c = grind (arith, fits)

-- the other sum of `end += len + 1` fits a `usize`
pub overflow_add-end-in-by_message : goal.overflow_add-end-in-by_message
overflow_add-end-in-by_message c = grind (arith, fits)

-- the frame of one more message and a zero are written
pub by_message-preserved : goal.by_message-preserved
by_message-preserved c =
    -- the frame and the zero fit (`f`), and the slice that was encoded has the bytes of the message (`e`)
    let f = fits (goal.at.by_message-preserved c).After-encode-len in
    let e = c.deref.ensures.value in
    let len : c.encode-len.result < length c.encode-len.new.dest = omega arith in
    record {
      -- the stream so far, followed by the frame and the zero, is the stream with this message
      frames = rw (messages_in-more _ _ c.message-item.result c.by_message-test.true, ← c.message-item.is, written c.by_message.dest c.encode-len.new.dest _ c.by_message.end c.encode-len.result c.by_message.invariant.in_dest len)
          (grind (arith, AreFrames-push));
      -- the new end is within the room that was counted for these messages
      within = rw (room-step _ _ c.message-item.result c.by_message-test.true c.message-item.is)
          (omega (arith, encoded_len-le c.message-item.result.items, ap encoded_len e));
      in_dest = simp length-set (omega arith);
    }
