-- Facts about bytes and lists: lists of ones, lists that are equal from an index on
-- (`drop-later`), parts without a zero (`part-nonzero`), and the three parts of a list that was overwritten in its
-- middle (`front-three`, `mid-three`, `behind-three`). Each fact follows from std's lemmas on `take`,
-- `drop` and `++`.
use Rattle.std.proofs.Common.{◌≡◌, ◌≢◌, ℕ, ◌+◌, ◌-◌, ◌≤◌, List, [], ◌∷◌, ◌++◌, length, drop, take, replicate, sym, ap, ◌∙◌, subst, arith, append_assoc, take_at, drop_at, length-append, length-take-le}
use Rattle.std.proofs.lemmas.List.{drop-drop, drop-take, take-take, length-replicate}
use Rattle.std.proofs.lemmas.List.Elements.{All-cons, All-drop, All-nil, All-replicate, All-take}
use Rattle.std.proofs.lemmas.Slice.{drop-append-drop}
use Rattle.cobs.specs.Bytes.{HasNoZero}

-- a list of n ones has n elements
pub length-ones : (n : ℕ) → length {A = ℕ} (replicate n 1) ≡ n
length-ones n = length-replicate n 1

-- a list of ones has no zero
pub ones-nonzero : (n : ℕ) → HasNoZero (replicate n 1)
ones-nonzero n = All-replicate (λ byte. byte ≢ 0) n 1 (λ e. omega arith)

-- the list of a single nonzero byte has no zero
pub one-nonzero : (b : ℕ) → b ≢ 0 → HasNoZero (b ∷ [])
one-nonzero b other = All-cons (λ b. b ≢ 0) b [] other (All-nil (λ b. b ≢ 0))

-- lists that are equal from an index on are equal from each later index on
pub drop-later : (a b : ℕ) (xs ys : List ℕ) → a ≤ b → drop a xs ≡ drop a ys → drop b xs ≡ drop b ys
drop-later a b xs ys le e =
    let sum : a + (b - a) ≡ b = omega arith in
    subst (λ n. drop n xs ≡ drop n ys) sum (sym (drop-drop (b - a) a xs) ∙ ap (drop (b - a)) e ∙ drop-drop (b - a) a ys)

-- the n bytes from index i on have no zero if they are among the first m bytes, and these have no zero
pub part-nonzero : (i n m : ℕ) (bytes : List ℕ) → HasNoZero (take m bytes) → i + n ≤ m → HasNoZero (take n (drop i bytes))
part-nonzero i n m bytes nonzero within =
    let front = subst HasNoZero (take-take (i + n) m bytes within) (All-take (λ b. b ≢ 0) (i + n) (take m bytes) nonzero) in
    subst HasNoZero (drop-take i n bytes) (All-drop (λ b. b ≢ 0) i (take (i + n) bytes) front)

-- the contents of a list after `part`, which has n elements, was written to `dest` from index `at` on: the front of
-- `dest`, then `part`, then the elements of `dest` from index at + n on
module _ (dest part : List ℕ) (at n : ℕ) (long : length part ≡ n) (fits : at ≤ length dest) where
  -- the elements before index `at` are those of `dest`
  pub front-three : take at (take at dest ++ (part ++ drop (at + n) dest)) ≡ take at dest
  front-three = grind (arith, take_at, length-take-le)

  -- the n elements from index `at` on are `part`
  pub mid-three : take n (drop at (take at dest ++ (part ++ drop (at + n) dest))) ≡ part
  mid-three = grind (arith, drop_at, take_at, length-take-le)

  -- from index at + n on, and from each later index on, the elements are those of `dest`
  pub behind-three : (r : ℕ) → at + n ≤ r → drop r (take at dest ++ (part ++ drop (at + n) dest)) ≡ drop r dest
  behind-three r le =
      -- `at` elements come before `part`
      let front_long = length-take-le at dest fits in
      ap (drop r) (sym (append_assoc (take at dest) part (drop (at + n) dest)))
      ∙ drop-append-drop (at + n) dest (take at dest ++ part) r le (length-append (take at dest) part ∙ omega arith)
