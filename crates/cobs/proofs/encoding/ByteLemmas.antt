-- Lemmas on an encoder over a slice that takes one more byte. A zero closes the open block (`after-zero`, by
-- `Reaches-zero`), any other byte joins it (`after-byte`, by `joined`), and the 254th byte fills it (`after-filled`, by
-- `front-filled`). `law_16` states these steps.
use Rattle.std.proofs.Common.{◌≡◌, ◌≢◌, ℕ, ◌+◌, ◌-◌, ◌<◌, ◌≤◌, true, false, List, [], ◌∷◌, ◌++◌, length, get_or, refl, ap, ◌∙◌, arith}
use Rattle.std.proofs.Math.ListN.{set}
use Rattle.std.proofs.lemmas.List.{length-set}
use Rattle.cobs.specs.Grammar.{HasNoZero}
use Rattle.cobs.specs.Length.{encoded_len}
use Rattle.cobs.specs.OpenBlock.{CobsEncoderAfter, IsPlaceIn, Reached, end_after, next_of, place_at, HasRoomFor}
use Rattle.cobs.specs.Internal.Taking.{TakesFront}
use Rattle.cobs.proofs.encoding.AfterLemmas.{after-len, after-place}
use Rattle.cobs.proofs.encoding.OpenLenLemmas.{same_start, open_len-least}
use Rattle.cobs.proofs.encoding.ReachLemmas.{IsNotFull, Reaches-zero}
use Rattle.cobs.proofs.encoding.TakingLemmas.{front-filled, front-none, front-open, front-reaches, joined, short_room}
use Rattle.cobs.proofs.bytes.ListLemmas.{length-ones, ones-nonzero}
use Rattle.cobs.specs.Internal.Reaches.{Reaches, start_with}
use Rattle.cobs.specs.Fields.Progress.{reached_by}
use Rattle.cobs.specs.declared.enc.unbuffered.UnbufferedEncoder.{UnbufferedEncoder}

-- The length of the frame of m and more bytes. `a` is any list of nonzero bytes, as many as the open block has.
-- `after-len` states this length with ones in place of the open block's bytes (`open_len`). Only the number of these
-- bytes matters, so `a` may take the place of the ones (`same_start`).
pub after-more : {slice m : List ℕ} {r : Reached} (a bytes : List ℕ) → CobsEncoderAfter slice r m → HasNoZero a → length a + 1 ≡ r.block.code
    → bytes ≢ [] → encoded_len (m ++ bytes) ≡ r.block.index + encoded_len (a ++ bytes)
after-more {r = r} a bytes h nonzero long some =
    let k = length-ones (r.block.code - 1) in
    after-len h bytes some ∙ ap (λ n. r.block.index + n) (grind (arith, same_start, ones-nonzero))

-- The next bytes of the message are the source, and the frame with these bytes fits the slice. The first byte of the
-- source is taken.
module _ {source slice : List ℕ} {r : Reached} {next : ℕ} (place : IsPlaceIn (length slice) r) (fits : end_after r source ≤ length slice) (some : 0 < length source) (at : next ≡ next_of r) where
  -- at the start, no byte of the source is encoded
  start : Reaches (start_with slice r source) slice 0 r.block.index next (λ _. Unit {0})
  start = rw at (front-reaches (front-none place) some)

  -- a zero closes the open block
  pub byte-zero : {r' : Reached} {code : ℕ} → get_or source 0 0 ≡ 0 → code ≡ r.block.code → r' ≡ place_at next 1 false → TakesFront slice r source 1 (set slice r.block.index code) r'
  byte-zero {code = code} zero coded is =
      -- `Reaches-zero` writes the code `next - r.block.index`, which is `code` (`code-is`), and the slice keeps its
      -- length (`long`); `front-open` states the whole step
      let closed = Reaches-zero start {Q = IsNotFull} fits some zero (omega arith) refl in
      let code-is : next - r.block.index ≡ code = omega arith in
      let long = length-set slice r.block.index code in
      front-open (omega arith) (rw code-is at closed) (omega arith) refl is

  -- a nonzero byte, written to the slice, joins the open block
  more : get_or source 0 0 ≢ 0 → Reaches (start_with slice r source) (set slice next (get_or source 0 0)) 1 r.block.index (next + 1) IsNotFull
  more other = joined _ some start refl other (omega arith) fits

  -- if the byte isn't the block's 254th byte, the block stays open
  pub byte-joins : {r' : Reached} {code : ℕ} → get_or source 0 0 ≢ 0 → r.block.code ≢ 254 → code ≡ r.block.code + 1
      → r' ≡ place_at r.block.index code false → TakesFront slice r source 1 (set slice next (get_or source 0 0)) r'
  byte-joins other open' coded is =
      -- the byte was written at `next`, which keeps the slice's length (`long`), so the frame still fits
      let long = length-set slice next (get_or source 0 0) in
      front-open (omega arith) (more other) (omega arith) (omega arith) is

  -- the byte fills the open block if it is the block's 254th byte
  pub byte-fills : {r' : Reached} → get_or source 0 0 ≢ 0 → r.block.code ≡ 254 → r' ≡ place_at (next + 1) 1 true
      → TakesFront slice r source 1 (set (set slice next (get_or source 0 0)) r.block.index 255) r'
  byte-fills other last is = let long = length-set slice next (get_or source 0 0) in front-filled (omega arith) (omega arith) (more other) refl is

-- if the next index is within the slice, the frame still fits the slice after one more byte
pub fits-byte : (slice : List ℕ) (r : Reached) (byte : ℕ) → 0 < r.block.code → r.block.code < 255 → next_of r < length slice → end_after r (byte ∷ []) ≤ length slice
fits-byte slice r byte some short room = grind (arith, short_room)

-- the three steps for an encoder that has taken m, and has room for a byte
module _ {slice m : List ℕ} {r : Reached} (h : CobsEncoderAfter slice r m) (room : next_of r < length slice) where
  -- the frame fits the slice after one more byte
  fits : (byte : ℕ) → end_after r (byte ∷ []) ≤ length slice
  fits byte = grind (arith, fits-byte, after-place h)

  -- a nonzero byte joins the open block
  pub after-byte : (byte : ℕ) → byte ≢ 0 → r.block.code < 254 → CobsEncoderAfter (set slice (next_of r) byte) (place_at r.block.index (r.block.code + 1) false) (m ++ byte ∷ [])
  -- the source is this one byte; `.after` of the step says what an encoder that had taken m has taken then
  after-byte byte other short = (byte-joins {source = byte ∷ []} (after-place h) (fits byte) (omega arith) refl other (omega arith) refl refl).after m h

  -- the 254th nonzero byte fills the open block, and its code 255 is written
  pub after-filled : (byte : ℕ) → byte ≢ 0 → r.block.code ≡ 254
      → CobsEncoderAfter (set (set slice (next_of r) byte) r.block.index 255) (place_at (r.block.index + 255) 1 true) (m ++ byte ∷ [])
  after-filled byte other last =
      (byte-fills {source = byte ∷ []} (after-place h) (fits byte) (omega arith) refl other last (grind arith)).after m h

  -- for a zero, the code of the open block is written
  pub after-zero : CobsEncoderAfter (set slice r.block.index r.block.code) (place_at (next_of r) 1 false) (m ++ 0 ∷ [])
  after-zero = (byte-zero {source = 0 ∷ []} (after-place h) (fits 0) (omega arith) refl refl refl refl).after m h

-- ROOM FOR A BYTE, GIVEN THE ENCODER'S PLAIN NUMBERS

-- an encoder in a slice of n bytes can have these numbers if its open block isn't full and the index of the next byte
-- is within the slice
pub is-place : (e : UnbufferedEncoder) (n : ℕ) → e.taken ≤ 253 → e.index + e.taken + 1 < n → IsPlaceIn n (reached_by e)
is-place e n short room = grind arith

-- if there is room for a byte, the open block isn't full, and the byte's index is within the slice
pub room-only : (e : UnbufferedEncoder) (n byte : ℕ) → HasRoomFor n (reached_by e) (byte ∷ []) → (e.taken ≤ 253) × (e.index + e.taken + 1 < n)
room-only e n byte h = grind (arith, open_len-least)
