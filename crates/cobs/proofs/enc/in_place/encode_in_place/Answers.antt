-- The frame so far ends before the bytes that are still to be read (`encoded_len-le`), so each of these bytes is still
-- as it was before the call (`there`).
use Rattle.std.proofs.Common.{◌≡◌, ◌<◌, ◌≤◌, ◌+◌, ◌-◌, ◌++◌, ℕ, List, [], ◌∷◌, drop, take, get_or, sym, ◌∙◌, arith, length, length-drop, length-take}
use Rattle.std.proofs.lemmas.List.{get_or-drop, length_push, take_more}
use Rattle.cobs.specs.Fields.Progress.{reached_by}
use Rattle.cobs.specs.Length.{max_encoded_len}
use Rattle.cobs.specs.OpenBlock.{CobsEncoderAfter, Reached, end_after, end_of, next_of}
use Rattle.cobs.specs.Overwritten.{message_in}
use Rattle.cobs.proofs.format.LengthLemmas.{encoded_len-le}
use Rattle.cobs.proofs.format.SentinelLemmas.{encoded_nonzero}
use Rattle.cobs.proofs.encoding.AfterLemmas.{after-end, after-place, end-is}
use Rattle.cobs.proofs.encoding.ByteLemmas.{room-only}
use Rattle.cobs.proofs.encoding.TakingLemmas.{all-after, all-end, all-rest, next-least}
use Rattle.cobs.proofs.enc.in_place.encode_in_place.Goals as goal
use Rattle.cobs.proofs.bytes.ListLemmas.{drop-later}

-- the frame ends at the place of the next byte at the latest
end-le : (r : Reached) → end_of r ≤ next_of r
end-le r = grind arith

-- lists that are equal from index a on have the same element at each index from a on
there : (a k : ℕ) (x y : List ℕ) → a ≤ k → drop a x ≡ drop a y → get_or x k 0 ≡ get_or y k 0
there a k x y le e =
    let s : k ≡ a + (k - a) = omega arith in
    grind (arith, get_or-drop)

-- the frame with one byte more is within the slice
fits-one : {slice m : List ℕ} {r : Reached} (byte n : ℕ) → CobsEncoderAfter slice r m → length m < n → max_encoded_len n ≤ length slice → end_after r (byte ∷ []) ≤ length slice
fits-one {m = m} byte n h more fits =
    -- the frame of a message of at most n bytes has at most `max_encoded_len n` bytes, which are within the slice
    omega (arith, encoded_len-le (m ++ byte ∷ []), length_push m byte, after-end h (byte ∷ []))

-- at the start, the encoder has taken no byte of the message
pub by_byte-init : goal.by_byte-init
by_byte-init c = grind arith

-- the encoder has room for the next byte
pub append_byte-requires : goal.append_byte-requires
append_byte-requires c =
    let i = c.by_byte.invariant in
    let byte : ℕ = get_or c.by_byte.buffer (c.args.start + c.by_byte.taken) 0 in
    let long = length-take c.by_byte.taken (drop c.args.start c.args.buffer.now) in
    -- `room`: there is room for the byte, because the frame with it is within the slice (`fits-one`)
    let room = room-only c.by_byte.encoder _ byte
    (record { place = after-place i.after; fits = fits-one byte c.args.len i.after (omega arith) (omega arith) }) in
    grind arith

-- the encoder takes the next byte
pub by_byte-preserved : goal.by_byte-preserved
by_byte-preserved c =
    let old : List ℕ = c.args.buffer.now in
    -- the message begins at index `start` of the buffer, and its next byte is at index `at`
    let start : ℕ = c.args.start in
    let at : ℕ = start + c.by_byte.taken in
    let r : Reached = reached_by c.by_byte.encoder in
    let i = c.by_byte.invariant in
    -- facts for the tactics: the encoder takes the byte (`e`), the frame so far ends at `end_of r` (`end`), and this
    -- frame is no longer than `max_encoded_len` says (`most`)
    let taken_long = length-take c.by_byte.taken (drop start old) in
    let e = c.append_byte.ensures [] (fits-one _ c.args.len i.after (omega arith) (omega arith)) in
    let long = length-drop start old in
    let end = end-is i.after in
    let most = encoded_len-le (take c.by_byte.taken (drop start old)) in
    -- the next byte in the buffer is the byte of the message, because the frame hasn't reached it
    let byte : get_or c.by_byte.buffer at 0 ≡ get_or (drop start old) c.by_byte.taken 0 =
    there _ at c.by_byte.buffer old (omega arith) i.rest ∙ sym (grind (arith, get_or-drop)) in
    -- the message so far, with this byte
    let more : take (c.by_byte.taken + 1) (drop start old) ≡ take c.by_byte.taken (drop start old) ++ get_or c.by_byte.buffer at 0 ∷ [] = grind (arith, take_more) in
    -- the frame isn't shorter after the byte
    let later : end_of r ≤ end_of (reached_by c.append_byte.new.self) =
    omega (arith, all-end e, end-le r, next-least r (get_or c.by_byte.buffer at 0 ∷ []) (after-place i.after).some (omega arith)) in
    record {
      after = rw more (all-after e _ i.after);
      rest = all-rest e ∙ drop-later _ _ _ _ later i.rest;
    }

-- the encoder's state is possible, as `close` requires
pub close-requires : goal.close-requires
close-requires c = after-place c.by_byte.invariant.after

-- after the loop, the encoder has taken the whole message m
pub returns : goal.returns
returns c =
    let m : List ℕ = message_in c.args.start c.args.len c.args.buffer.now in
    let after : CobsEncoderAfter c.by_byte.buffer (reached_by c.by_byte.encoder) m = grind arith in
    let frame = c.close.ensures.frame m after in
    record {
      frame = frame;
      no_sentinel = encoded_nonzero frame;
      -- `close` returns the end of the frame, which is `encoded_len` of m (`end-is`)
      len = c.close.ensures.end ∙ sym (end-is after);
      rest = grind arith;
    }
