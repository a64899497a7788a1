-- How one more byte changes the output and the last part of a piece: the byte joins the last part if bytes of that part
-- are missing (`output-push_more`, `last_part-push_more`); otherwise the byte is the next code (`output-push_next`,
-- `last_part-push_next`). By induction on the parts (`by_parts`).
use Rattle.std.proofs.Common.{◌≡◌, ℕ, ◌+◌, ◌-◌, ◌<◌, ◌≤◌, List, [], ◌∷◌, ◌++◌, length, drop, refl, arith, append_assoc, append-nil, inl, inr, length-drop, take_at, drop_at, Bool}
use Rattle.std.proofs.lemmas.List.{take-append-le, drop-append-le, length_push}
use Rattle.std.proofs.lemmas.Bool.{cases_lt}
use Rattle.cobs.specs.Grammar.{joint, is_full}
use Rattle.cobs.specs.Piece.{parts, parts_after, missing, output, last_part}
use Rattle.cobs.proofs.decoding.PieceCuts.{joint_of, output-last, output-more, last_part-last, last_part-more, by_parts}

-- the first byte of a piece is a code, and adds nothing to the output
pub output-one : (b : ℕ) → output (b ∷ []) ≡ []
output-one b = output-last b [] (omega arith)

-- the last part of a piece of one byte is this byte
pub last_part-one : (b : ℕ) → last_part (b ∷ []) ≡ b ∷ []
last_part-one b = last_part-last b [] (omega arith)

-- The piece p grows by the byte b. If bytes of the last part are missing, the byte is added to this part (the fields
-- `more_..`). Otherwise the byte is the code of the next part (the fields `next_..`).
record Grown (p : List ℕ) (b : ℕ) : Type 0 where
  more_output : 0 < missing (last_part p) → output (p ++ b ∷ []) ≡ output p ++ b ∷ []
  more_last : 0 < missing (last_part p) → last_part (p ++ b ∷ []) ≡ last_part p ++ b ∷ []
  next_output : missing (last_part p) ≡ 0 → output (p ++ b ∷ []) ≡ output p ++ joint (last_part p)
  next_last : missing (last_part p) ≡ 0 → last_part (p ++ b ∷ []) ≡ b ∷ []

-- a piece that is one part grows in this way
grown-last : (code : ℕ) (bytes : List ℕ) (b : ℕ) → length bytes ≤ code - 1 → Grown (code ∷ bytes) b
grown-last code bytes b short = record {
  more_output = λ h. grind (arith, last_part-last, output-last, length_push);
  more_last = λ h. grind (arith, last_part-last, length_push);
  next_output = λ h. grind (arith, last_part-last, output-last, output-more, length_push, take_at, drop_at, output-one, append-nil, joint_of);
  next_last = λ h. grind (arith, last_part-last, last_part-more, length_push, drop_at, last_part-one);
}

-- a piece of several parts grows in this way, if the bytes after its first part do
grown-more : (code : ℕ) (bytes : List ℕ) (b : ℕ) → code - 1 < length bytes → Grown (drop (code - 1) bytes) b → Grown (code ∷ bytes) b
grown-more code bytes b more rest = grind (arith, last_part-more, output-more, length_push, take-append-le, drop-append-le, append_assoc)

-- each piece that isn't empty grows in this way: by induction on the parts
grown : (c : ℕ) (p : List ℕ) (b : ℕ) → Grown (c ∷ p) b
grown c p b =
    -- `by_parts` needs the fact for the empty piece too, so it is stated for pieces with at least one byte
    by_parts (λ (l : List ℕ). 0 < length l → Grown l b) (λ some. absurd (omega arith)) (λ code bytes short some. grown-last code bytes b short)
    (grind (arith, grown-more, length-drop)) (c ∷ p) (omega arith)

-- no byte is missing if there is no part
pub last_part-empty : missing (last_part []) ≡ 0
unfolding last_part parts parts_after
last_part-empty = refl

-- if bytes of the last part are missing, the byte is added to the output
pub output-push_more : (p : List ℕ) (b : ℕ) → 0 < missing (last_part p) → output (p ++ b ∷ []) ≡ output p ++ b ∷ []
output-push_more [] b h = grind (arith, last_part-empty)
output-push_more (c ∷ p) b h = (grown c p b).more_output h

-- if bytes of the last part are missing, the byte is added to the last part
pub last_part-push_more : (p : List ℕ) (b : ℕ) → 0 < missing (last_part p) → last_part (p ++ b ∷ []) ≡ last_part p ++ b ∷ []
last_part-push_more [] b h = grind (arith, last_part-empty)
last_part-push_more (c ∷ p) b h = (grown c p b).more_last h

-- if no byte of the last part is missing, the joint of this part is added to the output
pub output-push_next : (c : ℕ) (p : List ℕ) (b : ℕ) → missing (last_part (c ∷ p)) ≡ 0 → output (c ∷ p ++ b ∷ []) ≡ output (c ∷ p) ++ joint (last_part (c ∷ p))
output-push_next c p b h = (grown c p b).next_output h

-- if no byte of the last part is missing, the byte alone is the new last part
pub last_part-push_next : (p : List ℕ) (b : ℕ) → missing (last_part p) ≡ 0 → last_part (p ++ b ∷ []) ≡ b ∷ []
last_part-push_next [] b h = last_part-one b
last_part-push_next (c ∷ p) b h = (grown c p b).next_last h

-- after a byte joins the last part, one byte fewer is missing
pub missing-push_more : (p : List ℕ) (b : ℕ) → 0 < missing (last_part p) → missing (last_part (p ++ b ∷ [])) + 1 ≡ missing (last_part p)
missing-push_more p b h = grind (arith, last_part-push_more, length_push)

-- if a byte joins the last part, the part's code is the same, so the part is full if it was full before
pub is_full-push_more : (p : List ℕ) (b : ℕ) → 0 < missing (last_part p) → is_full (last_part (p ++ b ∷ [])) ≡ is_full (last_part p)
is_full-push_more p b h = grind (arith, last_part-push_more)

-- `full` says whether the last part of the piece p is full, and `left` bytes of this part are missing
abbrev pub EndsIn : List ℕ → Bool → ℕ → Type 0
EndsIn p full left = (is_full (last_part p) ≡ full) × (missing (last_part p) ≡ left)

-- whether the byte joins the last part or not, the new output begins with the old output
pub output-push : (c : ℕ) (p : List ℕ) (b : ℕ) → (more : List ℕ) × (output (c ∷ p ++ b ∷ []) ≡ output (c ∷ p) ++ more)
output-push c p b = elim (cases_lt 0 (missing (last_part (c ∷ p)))) [
  | inl h ↦ (b ∷ [], output-push_more (c ∷ p) b h)
  | inr h ↦ (joint (last_part (c ∷ p)), output-push_next c p b (omega arith))
]
