-- The kept output of a piece h is the output of all its bytes except the last few, which are at most 253 (`kept-cut`),
-- since a broken block has at most 253 bytes after its code. The proof goes from block to block (`ends-next`), as
-- `kept_len` does: a block ends at a place in h if no byte of a block is missing before that place.
use Rattle.std.proofs.Common.{◌≡◌, ◌≢◌, ℕ, length-append, ◌+◌, ◌-◌, ◌<◌, ◌≤◌, List, [], ◌∷◌, ◌++◌, length, take, drop, get_or, arith, append_assoc, append-nil, take_at}
use Rattle.std.proofs.lemmas.List.{take_more, length-take-le, length-drop, take-append-drop}
use Rattle.std.proofs.Math.Seq.{take-add}
use Rattle.std.proofs.lemmas.Bool.{eq-eqb, ne_eqb}
use Rattle.cobs.specs.Piece.{kept_output, last_part, missing, output}
use Rattle.cobs.proofs.decoding.PieceLemmas.{last_part-push_next, last_part-push_more, missing-push_more, output-push_more}
use Rattle.cobs.proofs.decoding.PieceCuts.{is_whole-of, output-empty}

-- if bytes of the last part of p are missing, the next bytes xs join this part: the output, the last part, and the
-- number of missing bytes after xs
record IntoLast (p xs : List ℕ) : Type 0 where
  out : output (p ++ xs) ≡ output p ++ xs
  last : last_part (p ++ xs) ≡ last_part p ++ xs
  left : missing (last_part (p ++ xs)) + length xs ≡ missing (last_part p)

-- the bytes xs join the last part, if no more of them come than are missing
into_last : (p xs : List ℕ) → length xs ≤ missing (last_part p) → IntoLast p xs
into_last p [] h = grind (arith, append-nil)
into_last p (x ∷ xs) h =
    -- x joins the last part, so one byte fewer is missing (`m`); by induction, xs then joins it too (`again`)
    let m = missing-push_more p x (omega arith) in
    let again = into_last (p ++ x ∷ []) xs (omega arith) in
    grind (arith, append_assoc, output-push_more, last_part-push_more)

-- if n bytes of the last part are missing at the place `at` of h, the next n bytes of h join this part
joins : (h : List ℕ) (at n : ℕ) → n ≤ length (drop at h) → n ≤ missing (last_part (take at h))
    → missing (last_part (take (at + n) h)) + n ≡ missing (last_part (take at h))
joins h at n within few =
    -- `l`: n bytes join the last part, and `into_last` says that as many fewer are missing
    let l = length-take-le n (drop at h) within in
    rw (take-add at n h) (omega (arith, (into_last (take at h) (take n (drop at h)) (omega arith)).left))

-- THE WALK OF `kept_len`, AND THE BYTES WHOSE OUTPUT IS THE KEPT OUTPUT

-- if `left` bytes of a block are missing at the place `start`, the block ends `left` bytes later; the first block that
-- `kept_len` steps over began before `start`
pub ends-start : (h : List ℕ) (start left : ℕ) → left ≤ length (drop start h) → missing (last_part (take start h)) ≡ left
    → missing (last_part (take (start + left) h)) ≡ 0
ends-start h start left fits is = omega (arith, joins h start left fits (omega arith))

-- a code follows whole blocks: the blocks end at the place `at` of h, and the code is the byte at this place
module _ (h : List ℕ) (at code : ℕ) (here : at < length h) (is : code ≡ get_or h at 0) (ends : missing (last_part (take at h)) ≡ 0) where
  -- the bytes up to and including the code
  front-is : take (at + 1) h ≡ take at h ++ code ∷ []
  front-is = grind (arith, take_more)

  -- after the code, the other bytes of its block are missing
  front-left : missing (last_part (take (at + 1) h)) ≡ code - 1
  front-left = grind (arith, front-is, last_part-push_next)

  -- if h has all bytes of the block, a block ends after them
  pub ends-next : 0 < code → at + code ≤ length h → missing (last_part (take (at + code) h)) ≡ 0
  ends-next some fits =
      -- the block ends `code - 1` bytes after its code (`next`), and h has these bytes (`l` has the number of the bytes
      -- after the code)
      let next : at + 1 + (code - 1) ≡ at + code = omega arith in
      let l = length-drop (at + 1) h in
      grind (arith, ends-start, front-left)

  -- the piece breaks off inside the block: h has fewer bytes than the code says
  module _ (short : length h < at + code) where
    -- all bytes of h after the code join the block
    behind : IntoLast (take (at + 1) h) (drop (at + 1) h)
    behind = into_last _ _ (omega (arith, front-left, length-drop (at + 1) h))

    -- bytes of the last part of h are missing
    pub broken-last : missing (last_part h) ≢ 0
    -- if no byte were missing, the bytes of h after the code would be all bytes of the block (`behind.left`), but they
    -- are fewer (`short`)
    broken-last e = omega (arith, front-left, length-drop (at + 1) h, rw take-append-drop at behind.left)

    -- the kept output of h is the output up to and including the code of this block
    pub broken-kept : output (take (at + 1) h) ≡ kept_output h
    unfolding kept_output
    broken-kept = grind (arith, front-is, behind, last_part-push_next, is_whole-of, broken-last, ne_eqb, length-append, take_at, take-append-drop)

-- if no byte of the last part is missing, the whole output is kept
pub whole-kept : (p : List ℕ) → missing (last_part p) ≡ 0 → output p ≡ kept_output p
unfolding kept_output
whole-kept [] h = grind (arith, output-empty)
whole-kept (c ∷ p) h = grind (arith, is_whole-of, eq-eqb)
