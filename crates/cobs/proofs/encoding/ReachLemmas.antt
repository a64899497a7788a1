-- Lemmas on `Reaches`, which says how many bytes of a source the core of the encoder has encoded. They say what the
-- next bytes do: nonzero bytes join the open block (`Reaches-join`), and a zero closes it (`Reaches-zero`). If the open
-- block has 254 bytes and more bytes follow, its code 255 closes it (`Reaches-full`). The proofs use `OpenedLemmas` for
-- the slice, and `OpenLenLemmas` for the end of the frame.
use Rattle.std.proofs.Common.{◌≡◌, ◌≢◌, ℕ, ◌+◌, ◌-◌, ◌<◌, ◌≤◌, Bool, true, false, List, ◌∷◌, ◌++◌, length, drop, take, get_or, sym, arith, inl, inr, ◌⊎◌, append-nil, append_assoc, length-take-le, length-drop}
use Rattle.std.proofs.Math.ListN.{set}
use Rattle.std.proofs.Math.Seq.{take-add}
use Rattle.std.proofs.lemmas.Bool.{cases_eq}
use Rattle.std.proofs.lemmas.List.{drop_more, drop-set-lt, take_more}
use Rattle.cobs.specs.Grammar.{HasNoZero}
use Rattle.cobs.proofs.encoding.OpenedLemmas.{Opened-code, Opened-join, Opened-close}
use Rattle.cobs.proofs.encoding.OpenLenLemmas.{len-end, open_len-full, open_len-run, open_len-zero, open_len-least}
use Rattle.cobs.specs.Internal.Reaches.{HadTaken, Opened, Reaches, Start, whole_end}

-- `Reaches` also holds if the numbers and the slice are replaced by equal ones, and P by a weaker property Q
pub Reaches-at : {s : Start} {slice slice' : List ℕ} {pos pos' index index' next next' : ℕ} {P Q : Bool → Type 0} → slice ≡ slice' → pos ≡ pos' → index ≡ index' → next ≡ next'
    → ((full : Bool) → P full → Q full) → Reaches s slice pos index next P → Reaches s slice' pos' index' next' Q
Reaches-at s p i n weaker r = grind arith

-- the first `pos` bytes of the source are encoded
module _ {s : Start} {slice : List ℕ} {pos index next : ℕ} {P : Bool → Type 0} (r : Reaches s slice pos index next P) where
  -- each byte that is left of the source needs at least one byte before the end of the frame
  pub least : next + (length s.source - pos) ≤ whole_end s
  least = grind (arith, length-drop, open_len-least)

  -- the property P of the last block can be replaced by a weaker property Q
  pub Reaches-weaker : {Q : Bool → Type 0} → ((full : Bool) → P full → Q full) → Reaches s slice pos index next Q
  Reaches-weaker weaker = grind arith

  -- the byte in the place of the open block's code doesn't matter
  pub Reaches-code : (x : ℕ) → Reaches s (set slice index x) pos index next P
  Reaches-code x = grind (arith, drop-set-lt, Opened-code)

  -- the frame of the whole source fits the slice
  module _ {Q : Bool → Type 0} (fits : whole_end s ≤ length slice) where
    -- The next k bytes of the source, which aren't zeros and are already in the slice, join the open block. The last
    -- two premises say that the new property Q holds: it follows from P if k is 0, and otherwise the frame doesn't end
    -- in a full block.
    pub Reaches-join : (k : ℕ) → pos + k ≤ length s.source → next + k ≤ index + 255 → HasNoZero (take k (drop pos s.source)) → take k (drop next slice) ≡ take k (drop pos s.source)
        → ((full : Bool) → k ≡ 0 → P full → Q full) → (0 < k → Q false) → Reaches s slice (pos + k) index (next + k) Q
    Reaches-join k within short nonzero here none some = record {
      ordered = omega arith;
      short = short;
      within = within;
      end =
          -- the open block's code is greater by k, and `open_len-run` says that the length from this block on is the
          -- same
          let sum : next - index + k ≡ next + k - index = omega arith in
          let joined = rw sum at (open_len-run s.source pos k (next - index) (omega arith) within nonzero) in
          omega arith;
      rest = r.rest;
      taken = λ m h. by_count (cases_eq k 0) m (r.taken m h);
    }
      where
        -- the k bytes
        bytes : List ℕ
        bytes = take k (drop pos s.source)

        -- there are k of them
        long : length bytes ≡ k
        long = grind (arith, length-take-le, length-drop)

        -- the field `taken`, for no byte (k is 0) and for one or more bytes
        by_count : (k ≡ 0) ⊎ (k ≢ 0) → (m : List ℕ) → (full : Bool) × P full × Opened slice (m ++ take pos s.source) index next full
            → (full : Bool) × Q full × Opened slice (m ++ take (pos + k) s.source) index (next + k) full
        by_count (inl is) m t = grind arith
        by_count (inr other) m t =
            -- more than 0 bytes join the open block (`joined`); there is room for them (`least'`)
            let l = long in
            let least' = least in
            let joined = Opened-join t.2 bytes (grind arith) nonzero (omega arith) (omega arith) (rw l here) in
            grind (arith, append_assoc, take-add)

    -- if the next byte of the source is a zero, the open block's code is written, and the next block is open
    pub Reaches-zero : pos < length s.source → get_or s.source pos 0 ≡ 0 → next < index + 255 → Q false → Reaches s (set slice index (next - index)) (pos + 1) next (next + 1) Q
    Reaches-zero more is open' not_full =
        let least' = least in
        -- `left`: the bytes that are left begin with the zero
        let left : drop pos s.source ≡ 0 ∷ drop (pos + 1) s.source = grind (arith, drop_more) in
        -- the zero closes the open block, so the rest of the frame is counted from the next block on
        let zero_len = open_len-zero (next - index) (drop (pos + 1) s.source) (omega arith) in
        record {
          ordered = omega arith;
          short = omega arith;
          within = omega arith;
          end = grind arith;
          rest = grind (arith, drop-set-lt);
          taken = λ m h.
              let t = r.taken m h in
              let closed = Opened-close t.2 (next - index) (omega arith) (omega arith) in
              (false, not_full, grind (arith, append_assoc, take_more));
        }

  -- if the open block has 254 bytes, its code 255 closes it, and the frame then ends in a full block
  pub full-taken : next ≡ index + 255 → next ≤ length slice → (m : List ℕ) → HadTaken s m → Opened (set slice index 255) (m ++ take pos s.source) next (next + 1) true
  full-taken full fits m h =
      let t = r.taken m h in
      grind (arith, append-nil, Opened-close t.2 255 fits (sym full))

  -- if more bytes follow, the code 255 closes the open block that has 254 bytes, and the next block is open
  pub Reaches-full : {Q : Bool → Type 0} → pos < length s.source → next ≡ index + 255 → whole_end s ≤ length slice → Q true → Reaches s (set slice index 255) pos next (next + 1) Q
  Reaches-full more full fits is_full =
      grind (arith, drop-set-lt, full-taken, open_len-full (drop pos s.source) (grind (arith, length-drop)))

  -- if all bytes are taken, the frame ends with the open block
  pub ends : pos ≡ length s.source → whole_end s ≡ next
  ends last = grind (arith, len-end)

-- The frame doesn't end in a full block (`ends_in_full`): the open block has a byte, or the block before it isn't full,
-- or there is no block before it. An open block with 254 bytes isn't closed yet, so it doesn't count as full here.
abbrev pub IsNotFull : Bool → Type 0
IsNotFull full = full ≡ false
