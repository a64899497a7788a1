-- Lemmas for the functions of `dec/run.rt`, which take up to 254 bytes at once: they write the bytes after the output,
-- with a zero over each code (`walked`). `IsSpan` says which bytes may be taken so, and `open_fed` says that this has
-- the effect of feeding them; it is by `fed_walked`. From it follow `block_fed` for bytes of the open block, and `kept`
-- and `marked` for bytes that were copied or moved after the output.
use Rattle.std.proofs.Common.{◌≡◌, ◌≢◌, ℕ, zero, suc, ◌+◌, ◌-◌, ◌<◌, ◌≤◌, eqb, List, [], ◌∷◌, ◌++◌, length, take, drop, get_or, refl, sym, ◌∙◌, arith, length-take-le, length-drop, take-append-drop, take_all}
use Rattle.std.proofs.lemmas.List.{append-nil, drop_all, drop-drop, take_more, take_rest, take-append-drop}
use Rattle.std.proofs.Math.Seq.{drop-append_seam, take-add, take-append_seam}
use Rattle.std.proofs.lemmas.Bool.{ne_eqb}
use borrow.Rule.Slice.PartMut.{put_mid}
use Rattle.std.proofs.lemmas.Grind.{common_steps}
use Rattle.cobs.specs.Grammar.{HasNoZero}
use Rattle.cobs.specs.Feed.{Phase, Within}
use Rattle.cobs.specs.declared.dec.unbuffered.UnbufferedDecoder.{UnbufferedDecoder}
use Rattle.cobs.specs.Fields.Decoders.{phase_of}
use Rattle.cobs.specs.Internal.FeedsQuietly.{FeedsQuietly}
use Rattle.cobs.specs.Internal.Walk.{walked}
use Rattle.cobs.specs.Sentinel.{xor_each}
use Rattle.cobs.specs.Step.{next_phase, next_buffer}
use Rattle.cobs.proofs.streaming.RunLemmas.{over, phase_with-begun}
use Rattle.cobs.proofs.streaming.WalkLemmas.{fed_walked, length-walked, walked-past, walked-any, IsWalked}

-- if the bytes xs are fed quietly (`FeedsQuietly`), and then the bytes ys, then xs ++ ys are fed quietly
pub FeedsQuietly-append : (xs ys buffer buffer' buffer'' : List ℕ) (phase phase' phase'' : Phase)
    → FeedsQuietly buffer phase xs buffer' phase' → FeedsQuietly buffer' phase' ys buffer'' phase'' → FeedsQuietly buffer phase (xs ++ ys) buffer'' phase''
FeedsQuietly-append [] ys buffer buffer' buffer'' phase phase' phase'' f g = grind arith
FeedsQuietly-append (x ∷ xs) ys buffer buffer' buffer'' phase phase' phase'' f g =
    (f.0, FeedsQuietly-append xs ys (next_buffer buffer phase x) buffer' buffer'' (next_phase (length buffer) phase x) phase' phase'' f.1 g)

-- if the first `run` bytes are fed quietly, and then the next `more` bytes, then the first run + more bytes are fed
-- quietly
pub FeedsQuietly-more : (bytes buffer buffer' buffer'' : List ℕ) (phase phase' phase'' : Phase) (run more : ℕ) → FeedsQuietly buffer phase (take run bytes) buffer' phase'
    → FeedsQuietly buffer' phase' (take more (drop run bytes)) buffer'' phase'' → FeedsQuietly buffer phase (take (run + more) bytes) buffer'' phase''
FeedsQuietly-more bytes buffer buffer' buffer'' phase phase' phase'' run more f g = grind (arith, take-add, FeedsQuietly-append)

-- if the first i bytes are fed quietly, and then the byte at index i, the first i + 1 bytes are fed quietly
pub FeedsQuietly-byte : (bytes buffer buffer' buffer'' : List ℕ) (phase phase' phase'' : Phase) (i byte : ℕ) → i < length bytes → get_or bytes i 0 ≡ byte → FeedsQuietly buffer phase (take i bytes) buffer' phase'
    → FeedsQuietly buffer' phase' (byte ∷ []) buffer'' phase'' → FeedsQuietly buffer phase (take (i + 1) bytes) buffer'' phase''
FeedsQuietly-byte bytes buffer buffer' buffer'' phase phase' phase'' i byte inside is f g =
    rw (take_more bytes i 0 inside, is) (FeedsQuietly-append (take i bytes) (byte ∷ []) _ _ _ _ _ _ f g)

-- `ys` replaces the bytes of `dest` from index `at` on. If `ys` is these bytes with xs written over the first n of
-- them, the result is `dest` with xs written over its n bytes from index `at` on.
pub part_put : (at n : ℕ) (dest ys xs : List ℕ) → ys ≡ xs ++ drop n (take (length dest - at) (drop at dest)) → put_mid at (length dest - at) dest ys ≡ take at dest ++ (xs ++ drop (at + n) dest)
part_put at n dest ys xs is = grind (arith, drop_all, length-drop, take_rest, drop-drop, append-nil)

-- `part_put` for a copy: xs are the n bytes of `part`, each XORed with s
pub copied_put : (at n s : ℕ) (dest ys part xs : List ℕ) → ys ≡ xor_each s part ++ drop (length part) (take (length dest - at) (drop at dest)) → xor_each s part ≡ xs → length part ≡ n
    → put_mid at (length dest - at) dest ys ≡ take at dest ++ (xs ++ drop (at + n) dest)
copied_put at n s dest ys part xs is same long = grind (arith, part_put)

-- xs is written over the buffer from index `base` on
module _ (base : ℕ) (buffer xs : List ℕ) (room : base + length xs ≤ length buffer) where
  -- the bytes of this buffer from index `base` on
  behind : drop base (over base buffer xs) ≡ xs ++ drop (base + length xs) buffer
  behind = let l = length-take-le base buffer (omega arith) in grind (arith, drop-append_seam)

  -- if ys are as many bytes as xs, and replace xs, the result is ys written over the buffer
  over-over : (ys : List ℕ) → length ys ≡ length xs → put_mid base (base + length xs - base) (over base buffer xs) ys ≡ over base buffer ys
  over-over ys same = grind (arith, common_steps, over, length-take-le, take-append_seam, behind, drop-append_seam)

-- if xs was written over `before` from index `at` on, the `len` bytes from index `at` on are xs
pub copied-there : (at len : ℕ) (before dest xs : List ℕ) → at + len ≤ length before → length xs ≡ len → dest ≡ take at before ++ (xs ++ drop (at + len) before) → take len (drop at dest) ≡ xs
copied-there at len before dest xs room long is = grind (arith, over, behind, take-append_seam)

-- a code that agrees with the number `joint` of a decoder: 255 if `joint` is 0, that is, if the open block is full,
-- otherwise 1, which stands for any smaller code
abbrev pub code_by : ℕ → ℕ
code_by zero = 255
code_by (suc joint) = 1

-- `joint` is 0 if and only if this code is 255
pub code_by-full : (joint : ℕ) → eqb joint 0 ≡ eqb (code_by joint) 255
code_by-full zero = refl
code_by-full (suc joint) = grind arith

-- if this code is 255, `joint` is 0
full_by : (joint : ℕ) → code_by joint ≡ 255 → joint ≡ 0
full_by zero is = refl
full_by (suc joint) is = grind arith

-- the decoder after `len` more bytes of output, with these numbers for its open block
abbrev moved_on : UnbufferedDecoder → ℕ → ℕ → ℕ → UnbufferedDecoder
moved_on inner len left joint = record { written = inner.written + len; missing = left; joint = joint; too_long = inner.too_long }

-- The bytes xs are a span for this decoder: `len` bytes that it may take at once after its output. No code among them
-- follows a full block: a full open block has bytes enough for all of them (`full`), and they are too few for another
-- full block (`few`).
record IsSpan (inner : UnbufferedDecoder) (len : ℕ) (before xs : List ℕ) : Type 0 where
  room : inner.written + len ≤ length before
  long : length xs ≡ len
  going : inner.too_long ≡ 0
  full : inner.joint ≡ 0 → len ≤ inner.missing
  nonzero : HasNoZero xs
  some : 0 < len
  few : inner.missing < len → len < 254

-- the phase of the decoder, with `code_by` in place of its number `joint`
block-phase : (inner : UnbufferedDecoder) → inner.too_long ≡ 0 → (inner.joint ≡ 0 → 0 < inner.missing) → phase_of inner ≡ Within (eqb (code_by inner.joint) 255) inner.missing inner.written
block-phase inner going full = grind (arith, phase_with-begun, ne_eqb, code_by-full)

-- `ys` are the bytes of the span with a zero over each code, `code` is the last code, and `joint` is set for this code
module _ {inner : UnbufferedDecoder} {len : ℕ} {before xs : List ℕ} (s : IsSpan inner len before xs) (joint : ℕ) {ys : List ℕ} {code left : ℕ}
    (w : IsWalked ys code left (code_by inner.joint) inner.missing xs) (joint-is : eqb joint 0 ≡ eqb code 255) where
  -- to write `ys` after the output has the effect of feeding the bytes of the span
  open_fed : FeedsQuietly before (phase_of inner) xs (over inner.written before ys) (phase_of (moved_on inner len left joint))
  open_fed =
      -- `fed_walked` needs nonzero bytes, room, and no code after a full block; these are fields of `IsSpan`
      let fed = fed_walked xs before (code_by inner.joint) inner.missing inner.written s.nonzero
      (λ e. omega (arith, s.long, s.full (full_by inner.joint e))) (λ h. omega (arith, s.long, s.few (omega arith))) (omega (arith, s.long, s.room)) in
      grind (arith, block-phase, phase_with-begun)

  -- if the bytes of the span were copied after the output, and `ys` replaces them, the buffer is as if only `ys` was
  -- written
  written_over : (dest : List ℕ) → dest ≡ over inner.written before xs → put_mid inner.written (inner.written + len - inner.written) dest ys ≡ over inner.written before ys
  written_over dest is = let room = s.room in let long = s.long in grind (arith, over-over, length-walked, code_by)

-- If the next `run` bytes belong to the open block, and are written after the output as they are, this has the effect
-- of feeding them. As many fewer bytes of the block are then missing.
pub block_fed : (inner : UnbufferedDecoder) (run : ℕ) (dest bytes new : List ℕ) → inner.too_long ≡ 0 → run ≤ inner.missing → inner.written + run ≤ length dest → run ≤ length bytes
    → HasNoZero (take run bytes) → new ≡ take inner.written dest ++ (take run bytes ++ drop (inner.written + run) dest)
    → FeedsQuietly dest (phase_of inner) (take run bytes) new (phase_of (moved_on inner run (inner.missing - run) inner.joint))
block_fed inner zero dest bytes new going most room within nz is = grind (arith, take-append-drop)
block_fed inner (suc run) dest bytes new going most room within nz is =
    let xs : List ℕ = take (suc run) bytes in
    let long : length xs ≡ suc run = length-take-le (suc run) bytes within in
    let s : IsSpan inner (suc run) dest xs = record { room = room; long = long; going = going; full = λ _. most; nonzero = nz; some = omega arith; few = λ less. absurd (omega arith) } in
    -- no code is among these bytes
    let past = walked-past (code_by inner.joint) inner.missing xs (omega (arith, long)) in
    let fed = open_fed s inner.joint (sym past) (code_by-full inner.joint) in
    grind arith

-- the number that `joint_after` returns for a code is 0 if and only if the code is 255
pub joint-is : (code joint : ℕ) → (code ≡ 255 → joint ≡ 0) → (code ≢ 255 → joint ≡ 1) → eqb joint 0 ≡ eqb code 255
joint-is code joint full other = grind (arith, ne_eqb)

-- the `len` bytes xs were copied or moved to the place after the output, that is, to index `written`: `before` is the
-- buffer before this, and `dest` is the buffer after it
module _ (inner : UnbufferedDecoder) (len : ℕ) (dest : List ℕ) (nz : HasNoZero (take len (drop inner.written dest))) (before xs : List ℕ) (room : inner.written + len ≤ length before) (long : length xs ≡ len)
    (is : dest ≡ take inner.written before ++ (xs ++ drop (inner.written + len) before)) (going : inner.too_long ≡ 0) (full : inner.joint ≡ 0 → len ≤ inner.missing) (few : (0 < len) × (inner.missing < len → len < 254)) where
  -- the `len` bytes of `dest` after the output, which are xs (`part-is`)
  abbrev part : List ℕ
  part = take (inner.written + len - inner.written) (drop inner.written dest)

  -- a code that agrees with the open block
  abbrev code : ℕ
  code = code_by inner.joint

  part-is : part ≡ xs
  part-is = grind (arith, copied-there)

  -- xs has no zero
  nonzero : HasNoZero xs
  nonzero = grind (arith, copied-there)

  -- If there is a code among the bytes, the walk over them doesn't depend on the code before them. So it may begin from
  -- the code `inner.missing + 1`, as the functions of `dec/run.rt` do.
  own : inner.missing < len → walked (inner.missing + 1) (inner.missing + 1 - 1) part ≡ walked code inner.missing xs
  own more =
      let same : inner.missing + 1 - 1 ≡ inner.missing = omega arith in
      rw (part-is, same) (walked-any (inner.missing + 1) code inner.missing xs (omega arith))

  -- `dest`, in terms of the length of xs
  dest-is : dest ≡ take inner.written before ++ (xs ++ drop (inner.written + length xs) before)
  dest-is = grind arith

  -- if no code is among the bytes, they stay as they are, and this has the effect of feeding them
  pub kept : len ≤ inner.missing → FeedsQuietly before (phase_of inner) xs dest (phase_of (moved_on inner len (inner.missing - len) inner.joint))
  kept most =
      let all : take len xs ≡ xs = take_all len xs (omega arith) in
      rw all at (block_fed inner len before xs dest going most room (omega (arith, long)) (rw all nonzero) (rw all is))

  -- if a code is among the bytes, and `ys`, with a zero over each code, replaces them, this has the effect of feeding
  -- them
  pub marked : inner.missing < len → (ys : List ℕ) (last left joint : ℕ) → IsWalked ys last left (inner.missing + 1) (inner.missing + 1 - 1) part → eqb joint 0 ≡ eqb last 255
      → FeedsQuietly before (phase_of inner) xs (put_mid inner.written (inner.written + len - inner.written) dest ys) (phase_of (moved_on inner len left joint))
  marked more ys last left joint e due =
      let s : IsSpan inner len before xs = record { room = room; long = long; going = going; full = full; nonzero = nonzero; some = few.0; few = few.1 } in
      -- the walk may also begin from the code `code` (`own`), as `open_fed` needs
      let w = e ∙ own more in
      rw (written_over s joint w due dest dest-is) (open_fed s joint w due)
