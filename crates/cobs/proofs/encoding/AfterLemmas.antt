-- The two facts about the slice of an encoder, `CobsEncoderAfter` and `Opened`, follow from each other (`to_after`,
-- `from_after`), since a message has only one encoded frame (`one_encoded`). So the length of the frame follows
-- (`end-is`, `after-len`), and the room for it (`after-fits`). The code of the open block completes the frame
-- (`closed-open`), unless the frame ends in a full block (`closed-full`).
use Rattle.std.proofs.Common.{◌≡◌, ◌≢◌, ℕ, ◌+◌, ◌-◌, ◌<◌, ◌≤◌, Bool, true, false, if◌then◌else◌, List, [], ◌∷◌, ◌++◌, length, set, take, All, refl, sym, ap, ◌∙◌, arith, inl, inr, ◌⊎◌, append-nil, length-append, length-take}
use Rattle.std.specs.List.{concat}
use Rattle.std.proofs.lemmas.Bool.{cases_Bool}
use Rattle.std.proofs.lemmas.List.{take-take, drop_all, set_at, set_past}
use Rattle.std.proofs.Math.Seq.{take-set-lt}
use Rattle.cobs.specs.Grammar.{IsBlock, is_full, last_of, IsEncodedFrame, IsOpenFrame}
use Rattle.cobs.specs.Length.{encoded_len, open_len}
use Rattle.cobs.specs.OpenBlock.{Reached, end_after, end_of, next_of, place_at, AgreeOutside, IsOpenOutput, CobsEncoderAfter, IsPlaceIn}
use Rattle.cobs.proofs.format.GrammarLemmas.{one_frame}
use Rattle.cobs.proofs.format.UniqueLemmas.{one_encoded, length-encoded}
use Rattle.cobs.proofs.encoding.OpenLenLemmas.{Opened-len}
use Rattle.cobs.proofs.encoding.OpenLemmas.{blocks-of, closed_blocks, closed_frame, closed_frame-is_frame, closed_blocks-full, encoded-of, f-is, no_bytes}
use Rattle.cobs.proofs.encoding.OpenedLemmas.{Opened-same, open_frame, open_slice, opened-of, output-opened}
use Rattle.cobs.specs.Internal.Reaches.{Opened, ends_in_full}

-- The encoded frame f of a message consists of the blocks of the message's open frame, without a lone block that
-- follows a full block. `full` says whether f ends in a full block.
pub frame-is : {f m o : List ℕ} {index code : ℕ} (e : IsEncodedFrame f m) (r : IsOpenFrame o m index code)
    → let full = ends_in_full r.front r.bytes in (is_full (last_of e.reads.blocks) ≡ full) × (f ≡ closed_frame r full)
frame-is {f} {m} e r =
    let full : Bool = ends_in_full r.front r.bytes in
    -- `same`: m has only one encoded frame, so f is `closed_frame`
    let same = one_encoded f _ m e (encoded-of r full refl) in
    -- `parse`: f can be cut into blocks in only one way, so its last block is the last of `closed_blocks`
    let parse = one_frame f e.reads.blocks (closed_blocks r full) e.reads.frame (rw same (closed_frame-is_frame r full refl)) in
    (ap (λ l. is_full (last_of l)) parse ∙ closed_blocks-full r full refl, same)

-- a slice that has the blocks of m and the open block's bytes is the slice of an encoder that has taken m
pub to_after : {slice m : List ℕ} {index next : ℕ} {full : Bool} (code : ℕ) → index + code ≡ next → code < 255 → (if full then index else next) ≤ length slice
    → Opened slice m index next full → CobsEncoderAfter slice (place_at index code full) m
to_after {slice} {m} {index} {next} {full} code is short fits o =
    let follows = open_frame o code is short in
    let encoded = encoded-of follows full (sym o.noted) in
    let b = by_end full fits in
    record {
      frame = closed_frame follows full;
      encoded = encoded;
      noted = o.noted ∙ sym (frame-is encoded follows).0;
      follows = (_, follows);
      fits = b.0;
      begins = b.1;
    }
  where
    -- the fields `fits` and `begins`, for a frame that ends with the open block, and for one that ends in a full block
    -- before it
    by_end : (full : Bool) → (if full then index else next) ≤ length slice
        → let frame = closed_frame (open_frame o code is short) full in (length frame ≤ length slice) × AgreeOutside index frame (take (length frame) slice)
    by_end false fits =
        -- the open frame has `next` bytes, so it is compared with the first `next` bytes of the slice (`open_slice`)
        let long : length (concat o.front ++ code ∷ o.bytes) ≡ next = grind (arith, length-append) in
        (omega arith, rw long (open_slice o code is fits))
    -- the frame has only `index` bytes, so no byte of it is in the place of the open block's code
    by_end true fits = grind (arith, append-nil, set_past)

-- the encoder has taken m; its slice and its progress are `slice` and `r`
module _ {slice m : List ℕ} {r : Reached} (h : CobsEncoderAfter slice r m) where
  -- the open frame of m that the encoder has
  abbrev o : IsOpenFrame h.follows.0 m r.block.index r.block.code
  o = h.follows.1

  -- the blocks before the open block are blocks, and the open block is a block too
  parts : All IsBlock o.front × IsBlock (r.block.code ∷ o.bytes)
  parts = blocks-of o

  -- `r.full` is true if and only if the frame ends in a full block (`ends_in_full`)
  noted-is : r.full ≡ ends_in_full o.front o.bytes
  noted-is = h.noted ∙ (frame-is h.encoded o).0

  -- the open block is part of the frame, unless it is only a placeholder after a full block
  pub whole-is : {full : Bool} → r.full ≡ full → h.frame ≡ concat o.front ++ (if full then [] else r.block.code ∷ o.bytes)
  whole-is is = (frame-is h.encoded o).1 ∙ ap (λ full. concat o.front ++ (if full then [] else r.block.code ∷ o.bytes)) (sym noted-is ∙ is)

  -- the slice has the blocks before the open block, and the open block's bytes after the place of its code: if the
  -- frame ends in a full block (`inl`), and if it doesn't (`inr`)
  there : (r.full ≡ true) ⊎ (r.full ≡ false) → Opened slice m r.block.index (next_of r) (ends_in_full o.front o.bytes)
  there (inl full) =
      -- the open block has no bytes (`none`), so its code is 1 (`code-is`), and the frame has only the blocks before it
      -- (`is`)
      let none = no_bytes o.front o.bytes (sym noted-is ∙ full) in
      let code-is = parts.1.0 in
      let is : h.frame ≡ concat o.front = whole-is full ∙ append-nil (concat o.front) in
      opened-of o refl (grind (arith, set_past)) (grind (arith, drop_all, length-take (next_of r) slice))
  there (inr open') =
      -- the frame is the whole open frame (`is`), so the front of the slice is the output of a caller (`out`), which
      -- ends at `next_of r` (`long`)
      let is : h.frame ≡ h.follows.0 = whole-is open' ∙ sym (f-is o) in
      let out : IsOpenOutput (take (length h.follows.0) slice) r.block m = grind arith in
      let long : length h.follows.0 ≡ next_of r = ap length (f-is o) ∙ length-append (concat o.front) _ ∙ omega (arith, parts.1.0) in
      -- `output-opened` states `Opened` for this front, and `Opened-same` for the slice, because later bytes don't
      -- matter
      Opened-same (rw long at (output-opened out)) slice (grind (arith, take-take))

  -- the converse of `to_after`: the slice of an encoder meets `Opened`
  pub from_after : Opened slice m r.block.index (next_of r) r.full
  from_after = rw noted-is (there (cases_Bool r.full))

  -- the encoded frame of m ends at the index that the progress gives
  pub end-is : encoded_len m ≡ end_of r
  end-is =
      -- both sides are the length of the frame: `length-encoded` gives it as `encoded_len`, and `whole-is` gives its
      -- parts
      grind (arith, whole-is refl, length-append, sym (length-encoded h.frame m h.encoded), parts.1.0)

  -- the frame in the slice ends at this index
  length-frame : length h.frame ≡ end_of r
  length-frame = length-encoded h.frame m h.encoded ∙ end-is

  -- the frame ends within the slice
  pub after-fits : encoded_len m ≤ length slice
  after-fits = grind (arith, length-frame, end-is)

  -- the progress is possible in the slice
  pub after-place : IsPlaceIn (length slice) r
  after-place = grind (arith, parts, end-is, after-fits)

  -- the length of the frame after the encoder has taken these bytes too, if there is at least one byte
  pub after-len : (bytes : List ℕ) → bytes ≢ [] → encoded_len (m ++ bytes) ≡ r.block.index + open_len r.block.code bytes
  after-len bytes some =
      -- `Opened-len` has the number `next_of r - r.block.index` in place of the code; `code` says that they are equal
      let code : next_of r - r.block.index ≡ r.block.code = omega arith in
      rw code at (Opened-len bytes (λ full. some) from_after)

  -- the length of the frame after the encoder has taken these bytes too, which may be no bytes
  pub after-end : (bytes : List ℕ) → encoded_len (m ++ bytes) ≡ end_after r bytes
  after-end [] = grind (arith, append-nil, end-is)
  after-end (b ∷ bytes) = grind (arith, after-len)

  -- if the frame ends in a full block, it is complete
  pub closed-full : r.full ≡ true → IsEncodedFrame (take r.block.index slice) m
  closed-full full = grind (arith, length-frame, set_past)

  -- if the frame doesn't end in a full block, the code of the open block completes it
  pub closed-open : r.full ≡ false → IsEncodedFrame (take (next_of r) (set slice r.block.index r.block.code)) m
  closed-open open' =
      let some = after-place.some in
      let same : h.frame ≡ concat o.front ++ r.block.code ∷ o.bytes = whole-is open' in
      grind (arith, set_at, take-set-lt, length-frame)

-- the encoder that has taken nothing
pub after-nothing : (slice : List ℕ) → 0 < length slice → CobsEncoderAfter slice (place_at 0 1 false) []
after-nothing slice some = grind (arith, to_after)
