-- A piece is its first part and the bytes after it. So the output and the last part of the piece follow from those of
-- these bytes, by the definition of `parts_after`, and a fact about pieces is proved part by part (`by_parts`).
use Rattle.std.proofs.Common.{◌≡◌, ℕ, ◌-◌, ◌<◌, ◌≤◌, eqb, List, [], ◌∷◌, ◌++◌, length, take, drop, if◌then◌else◌, ◌==◌, refl, arith, take_all, length-drop, zero, suc, inl, inr}
use Rattle.cobs.specs.Piece.{last_part, is_whole, missing, parts, parts_after, output}
use Rattle.cobs.proofs.format.FrameLemmas.{parts_after-drop, parts_after-past, last_of-cons, parts_after-some}
use Rattle.std.proofs.lemmas.Bool.{cases_lt}

-- P holds for each piece if it holds for no bytes (`none`) and for a piece that is one part (`last`), and if it holds
-- for a longer piece when it holds for the bytes after the first part (`more`)
module _ (P : List ℕ → Type 0) (none : P []) (last : (code : ℕ) (bytes : List ℕ) → length bytes ≤ code - 1 → P (code ∷ bytes))
    (more : (code : ℕ) (bytes : List ℕ) → code - 1 < length bytes → P (drop (code - 1) bytes) → P (code ∷ bytes)) where
  -- P holds for pieces of at most n bytes: by induction on n
  part_by_part : (n : ℕ) (p : List ℕ) → length p ≤ n → P p
  part_by_part n [] h = none
  part_by_part zero (code ∷ bytes) h = grind arith
  part_by_part (suc n) (code ∷ bytes) h = elim (cases_lt (code - 1) (length bytes)) [
    -- bytes follow the first part, and P holds for them by induction
    | inl long ↦ more code bytes long (part_by_part n (drop (code - 1) bytes) (omega (arith, length-drop (code - 1) bytes)))
    -- the piece is one part (`last`)
    | inr short ↦ grind arith
  ]

  -- the main lemma: P holds for each piece
  pub by_parts : (p : List ℕ) → P p
  by_parts p = part_by_part (length p) p (omega arith)

-- the output of a piece that is one part: its bytes after the code
pub output-last : (code : ℕ) (bytes : List ℕ) → length bytes ≤ code - 1 → output (code ∷ bytes) ≡ bytes
unfolding output parts parts_after
output-last code bytes short = grind (arith, parts_after-past, take_all)

-- the joint of a part with this code: no byte for the code 255, otherwise a zero
abbrev pub joint_of : ℕ → List ℕ
joint_of code = if code == 255 then [] else 0 ∷ []

-- the output of a piece of several parts: the bytes of the first part, its joint, and the output of the bytes after it
pub output-more : (code : ℕ) (bytes : List ℕ) → code - 1 < length bytes → output (code ∷ bytes) ≡ (take (code - 1) bytes ++ joint_of code) ++ output (drop (code - 1) bytes)
unfolding output parts parts_after
output-more code bytes more = grind (arith, parts_after-drop, length-drop, parts_after-some)

-- no bytes have no output
pub output-empty : (p : List ℕ) → length p ≡ 0 → output p ≡ []
unfolding output parts parts_after
output-empty [] e = refl
output-empty (x ∷ p) e = grind arith

-- the last part of a piece of several parts is the last part of the bytes after its first part
pub last_part-more : (code : ℕ) (bytes : List ℕ) → code - 1 < length bytes → last_part (code ∷ bytes) ≡ last_part (drop (code - 1) bytes)
unfolding last_part parts parts_after
last_part-more code bytes more = grind (arith, parts_after-drop, last_of-cons, parts_after-some)

-- a piece that is one part is its own last part
pub last_part-last : (code : ℕ) (bytes : List ℕ) → length bytes ≤ code - 1 → last_part (code ∷ bytes) ≡ code ∷ bytes
unfolding last_part parts parts_after
last_part-last code bytes short = grind (arith, parts_after-past, take_all)

-- a piece that isn't empty is whole if and only if no byte of its last part is missing
pub is_whole-of : (p : List ℕ) → 0 < length p → is_whole p ≡ eqb (missing (last_part p)) 0
unfolding is_whole
is_whole-of p h = grind arith
