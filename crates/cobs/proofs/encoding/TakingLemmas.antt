-- Lemmas on how the core of the encoder takes a source, step by step: `front-taken` derives `TakesFront`, the effect of
-- a step, from `Reaches`, and `front-reaches` goes back from there, for the next step. At the end, `all-after` and
-- `start-after` say that the encoder has taken the whole source.
use Rattle.std.proofs.Common.{◌≡◌, ◌≢◌, get_or, ℕ, ◌+◌, ◌<◌, ◌≤◌, Bool, true, false, List, [], ◌∷◌, ◌++◌, length, drop, take, refl, ◌∙◌, inl, inr, arith, append-nil, length-append, length-take-le, length-drop, take_all}
use borrow.Rule.Slice.PartMut.{put_mid}
use Rattle.std.proofs.lemmas.Simd.{length-chunk}
use Rattle.cobs.proofs.encoding.OpenedLemmas.{Opened-same}
use Rattle.cobs.proofs.bytes.ListLemmas.{behind-three, front-three, mid-three}
use Rattle.std.proofs.Math.ListN.{set}
use Rattle.std.proofs.lemmas.Bool.{cases_Bool, cases_lt}
use Rattle.std.proofs.lemmas.List.{drop-drop, drop-set, drop-set-lt, drop_all, drop_more, length-set}
use Rattle.std.proofs.lemmas.Grind.{common_steps}
use Rattle.cobs.specs.Grammar.{HasNoZero}
use Rattle.cobs.specs.Length.{encoded_len, open_len}
use Rattle.cobs.specs.OpenBlock.{Reached, CobsEncoderAfter, IsPlaceIn, end_after, end_of, next_of, place_at}
use Rattle.cobs.specs.Internal.Taking.{TakesFront}
use Rattle.cobs.proofs.encoding.AfterLemmas.{after-end, after-nothing, end-is, from_after, to_after}
use Rattle.cobs.proofs.encoding.OpenLenLemmas.{open_len-least, open_len-most}
use Rattle.cobs.proofs.encoding.ReachLemmas.{IsNotFull, Reaches-at, Reaches-full, Reaches-join, Reaches-weaker, ends, full-taken, least}
use Rattle.cobs.specs.Internal.Reaches.{HadTaken, Reaches, Start, start_with, whole_end}

-- if at least one byte follows, the end of the frame is counted with `open_len`
pub after-some : (r : Reached) (bytes : List ℕ) → 0 < length bytes → end_after r bytes ≡ r.block.index + open_len r.block.code bytes
after-some r bytes h = grind arith

-- the rule set for `fits-byte` of `ByteLemmas`
pub ruleset short_room = (after-some, open_len-most, cases_Bool)

-- each byte of the source needs at least one byte of the frame
pub next-least : (r : Reached) (source : List ℕ) → 0 < r.block.code → 0 < length source → next_of r + length source ≤ end_after r source
next-least r source code some = grind (arith, open_len-least)

-- between two steps, the first `pos` bytes of the source are encoded
pub front-reaches : {source old slice : List ℕ} {r r' : Reached} {pos : ℕ} → TakesFront old r source pos slice r' → pos < length source
    → Reaches (start_with old r source) slice pos r'.block.index (next_of r') (λ _. Unit {0})
unfolding HadTaken
front-reaches t more = grind (arith, after-some, length-drop, from_after)

-- a byte of the source is written after the open block's bytes
module _ {s : Start} {slice : List ℕ} {read index next : ℕ} {P : Bool → Type 0} (byte : ℕ) (more : read < length s.source) (r : Reaches s slice read index next P) where
  -- this doesn't change what has been encoded
  pub written : Reaches s (set slice next byte) read index next P
  written = grind (arith, common_steps)

  -- a byte that isn't a zero joins the open block
  pub joined : get_or s.source read 0 ≡ byte → byte ≢ 0 → next < index + 255 → whole_end s ≤ length slice → Reaches s (set slice next byte) (read + 1) index (next + 1) IsNotFull
  joined is other short fits =
      let room = least r in
      -- the slice keeps its length, which the tactics below need
      let long = length-set slice next byte in
      -- `one` and `here`: the next byte of the source is this byte, and is now in the slice
      let one : take 1 (drop read s.source) ≡ byte ∷ [] = grind (arith, drop_more) in
      let here : take 1 (drop next (set slice next byte)) ≡ take 1 (drop read s.source) = grind (arith, drop-set) in
      let nonzero : HasNoZero (take 1 (drop read s.source)) = rw one (grind arith) in
      Reaches-join written (omega arith) 1 (omega arith) (omega arith) nonzero here (grind arith) (λ z. refl)

-- the next k bytes of the source, which aren't zeros, are copied as one slice, and join the open block
pub slice-joined : {s : Start} {slice part : List ℕ} {pos index next k n m : ℕ} {P : Bool → Type 0} → Reaches s slice pos index next P
    → HasNoZero (take k (drop pos s.source)) → pos + k ≤ length s.source → whole_end s ≤ length slice
    → next + k ≤ index + 255 → n ≡ k → m ≡ k → part ≡ take m (drop pos s.source) → Reaches s (put_mid next n slice part) (pos + k) index (next + k) (λ full. 0 < k → full ≡ false)
slice-joined {s} {slice} {part} {pos} {index} {next} {k} {n} before nonzero within fits short n-is m-is part-is =
    let r = Reaches-weaker before {Q = λ _. Unit {0}} (λ full p. tt) in
    let room = least r in
    let row = length-chunk pos k s.source (omega arith) in
    let after : List ℕ = put_mid next n slice part in
    let is : after ≡ take next slice ++ (take k (drop pos s.source) ++ drop (next + k) slice) = grind (arith, drop-drop) in
    let long : length slice ≡ length after = grind (arith, length-append, length-take-le, length-drop) in
    let same : Reaches s after pos index next (λ _. Unit {0}) = grind (arith, Opened-same, front-three, behind-three) in
    let here : take k (drop next after) ≡ take k (drop pos s.source) = grind (arith, mid-three) in
    Reaches-join same (omega arith) k (omega arith) short nonzero here (λ full none p lt. absurd (omega arith)) (λ some lt. refl)

-- a step ends: `TakesFront` follows from `Reaches`
module _ {source old slice : List ℕ} {r r' : Reached} (fits : end_after r source ≤ length slice) where
  -- the step has taken the first `pos` bytes, if the open block isn't full; if these are all bytes of the source, the
  -- frame must not end in a full block
  pub front-taken : {pos index next code : ℕ} {full : Bool} → Reaches (start_with old r source) slice pos index next (λ noted. noted ≡ full) → next < index + 255
      → (pos ≡ length source → full ≡ false) → index + code ≡ next → r' ≡ place_at index code full → TakesFront old r source pos slice r'
  unfolding HadTaken
  front-taken {pos} {index} {next} {code} {full} s short last coded is =
      let room = least s in
      let place : Reached = place_at index code full in
      -- `end`: the end of the frame is the same, counted from the new progress, whether bytes are left or not
      let end : end_after place (drop pos source) ≡ end_after r source = elim (cases_lt pos (length source)) [
        -- if bytes are left, both ends are counted with `open_len` (`after-some`)
        | inl more ↦ grind (arith, after-some, length-drop)
        -- if none is left, the frame ends with the open block (`ends`), since it doesn't end in a full block (`last`)
        | inr none ↦ (let all : pos ≡ length source = omega arith in rw (drop_all pos source (omega arith), last all, ends s all) (omega arith))
      ] in
      grind (arith, to_after)

  -- the step has taken the first `pos` bytes, and the frame doesn't end in a full block
  pub front-open : {pos index next code : ℕ} → Reaches (start_with old r source) slice pos index next IsNotFull → next < index + 255 → index + code ≡ next
      → r' ≡ place_at index code false → TakesFront old r source pos slice r'
  front-open s short coded is = front-taken s short (λ all. refl) coded is

  -- the step has taken the whole source, and its last byte filled the open block, whose code 255 is now written
  front-full : {pos index : ℕ} {P : Bool → Type 0} → Reaches (start_with old r source) slice pos index (index + 255) P → pos ≡ length source
      → r' ≡ place_at (index + 255) 1 true → TakesFront old r source pos (set slice index 255) r'
  unfolding HadTaken
  front-full {pos} {index} s last is =
      let long = length-set slice index 255 in
      let e = ends s last in
      rw is (record {
        place = grind arith;
        -- `full-taken`: with its code 255, the slice has the frame of m and the source, which ends in a full block
        after = λ m h. to_after 1 refl (omega arith) (omega arith) (full-taken s refl (omega arith) m h);
        end = grind arith;
        rest = grind (arith, drop-set-lt);
      })

-- the last byte that was taken filled the open block, whose code 255 is now written; bytes of the source may be left or
-- not
pub front-filled : {source old slice : List ℕ} {r r' : Reached} {pos index next code : ℕ} {P : Bool → Type 0} → end_after r source ≤ length slice
    → next ≡ index + 255 → Reaches (start_with old r source) slice pos index next P
    → code ≡ 1 → r' ≡ place_at next code true → TakesFront old r source pos (set slice index 255) r'
front-filled {source} {old} {slice} {r} {r'} {pos} {index} fits full s one is =
    let long = length-set slice index 255 in
    elim (cases_lt pos (length source)) [
      -- if bytes are left, they begin the next block (`Reaches-full`)
      | inl more ↦ front-taken (omega arith) (Reaches-full s more full fits refl) (omega arith) (grind arith) (omega arith) is
      -- if none is left, the full block ends the frame; `front-full` has index + 255 in place of `next`, so
      -- `Reaches-at` replaces this number
      | inr none ↦ front-full fits (Reaches-at refl refl refl full (λ full p. p) s) (omega arith) (rw (full, one) at is)
    ]

-- a step that takes no byte changes nothing
pub front-none : {source slice : List ℕ} {r : Reached} → IsPlaceIn (length slice) r → TakesFront slice r source 0 slice r
front-none place = record { place = place; after = λ m h. rw append-nil h; end = refl; rest = refl }

-- the whole source is taken
module _ {slice slice' source : List ℕ} {r r' : Reached} (t : TakesFront slice r source (length source) slice' r') where
  -- the encoder has then taken m and the source
  pub all-after : (m : List ℕ) → CobsEncoderAfter slice r m → CobsEncoderAfter slice' r' (m ++ source)
  all-after m h = grind (arith, take_all)

  -- the frame ends at the index that was computed before
  pub all-end : end_of r' ≡ end_after r source
  all-end = grind (arith, drop_all)

  -- the bytes of the slice after the frame are as they were
  pub all-rest : drop (end_of r') slice' ≡ drop (end_of r') slice
  all-rest = rw all-end t.rest

-- an encoder that has taken nothing
module _ (slice : List ℕ) (r : Reached) (is : r ≡ place_at 0 1 false) (some : 0 < length slice) where
  -- after a source is encoded, the frame will end at the length of the source's encoded frame
  pub start-fits : (source : List ℕ) → end_after r source ≡ encoded_len source
  start-fits source = grind arith

  -- the progress is possible in the slice
  pub start-place : IsPlaceIn (length slice) r
  start-place = grind arith

  -- the encoder has taken the empty message
  pub start-taken : CobsEncoderAfter slice r []
  start-taken = rw is (after-nothing slice some)

  -- the encoder has then taken the whole source
  module _ {slice' source : List ℕ} {r' : Reached} (t : TakesFront slice r source (length source) slice' r') where
    -- the encoder's message is the source
    pub start-after : CobsEncoderAfter slice' r' source
    start-after = all-after t [] start-taken

    -- the frame ends at the length of the source's encoded frame
    pub start-len : end_of r' ≡ encoded_len source
    start-len = all-end t ∙ start-fits source

-- the rule set for the tactics of the functions that begin with a new encoder, such as `encode`
pub ruleset from_start = (start-fits, start-place, all-rest)

-- the rule set for the tactics of the methods of streaming encoders, such as `push`
pub ruleset encoder_steps = (end-is, after-end, all-after, all-rest)
