-- Lemmas on `walked`, which goes through bytes from code to code and puts a zero over each code. If bytes are fed after
-- an open block, this is what the decoder writes (`fed_walked`, by induction on the bytes). For the bytes after the
-- first code of a piece it is the output of the piece (`as_piece`, by `quiet`). The other lemmas compute `walked`: in
-- two parts (`walked-append`), before the next code (`walked-past`), and at the next code (`walked-next`).
use Rattle.std.proofs.Common.{◌≡◌, ◌≢◌, ℕ, zero, suc, ◌+◌, ◌-◌, ◌<◌, ◌≤◌, eqb, List, [], ◌∷◌, ◌++◌, length, take, drop, get_or, set, refl, sym, ap, ◌∙◌, arith, append_assoc, append-nil, length-set, length-drop, length-take, length-take-le, take-append-drop, take_all}
use Rattle.std.proofs.lemmas.List.{drop_all, drop-drop, drop_more, drop-set-lt, take_more, take_more_set}
use Rattle.std.proofs.Math.Seq.{take-add}
use Rattle.std.proofs.lemmas.List.Elements.{All-head, All-tail, All-cons, All-get_or, All-drop}
use Rattle.std.proofs.lemmas.Bool.{ne_eqb, lt-ltb}
use borrow.Rule.Slice.PartMut.{put_mid}
use Rattle.cobs.specs.Grammar.{HasNoZero}
use Rattle.cobs.specs.Feed.{Within}
use Rattle.cobs.specs.Internal.FeedsQuietly.{FeedsQuietly}
use Rattle.cobs.specs.Internal.Walk.{walked}
use Rattle.cobs.proofs.streaming.RunLemmas.{over, over-cons}

-- `ys` are the bytes with a zero over each code, `code` is the last code, and `left` bytes of its block are missing;
-- before the bytes, n bytes are missing of a block with the code `first`
abbrev pub IsWalked : List ℕ → ℕ → ℕ → ℕ → ℕ → List ℕ → Type 0
IsWalked ys code left first n bytes = ◌≡◌ {A = List ℕ × ℕ × ℕ} (ys, code, left) (walked first n bytes)

-- with a zero over each code, there are as many bytes
pub length-walked : (code n : ℕ) (bytes : List ℕ) → length (walked code n bytes).0 ≡ length bytes
length-walked code n [] = refl
length-walked code (suc n) (b ∷ bytes) = ap suc (length-walked code n bytes)
length-walked code zero (c ∷ bytes) = ap suc (length-walked c (c - 1) bytes)

-- Bytes that are fed quietly (`FeedsQuietly`) after an open block are written with a zero over each code. No code among
-- them may follow a full block: if the open block is full, it has bytes enough for all of them; otherwise they are too
-- few for a full block.
pub fed_walked : (bytes buffer : List ℕ) (code left count : ℕ) → HasNoZero bytes
    → (code ≡ 255 → length bytes ≤ left) → (left < length bytes → length bytes < 254) → count + length bytes ≤ length buffer
    → let w = walked code left bytes in
    FeedsQuietly buffer (Within (eqb code 255) left count) bytes (over count buffer w.0) (Within (eqb w.1 255) w.2 (count + length bytes))
fed_walked [] buffer code left count nz full few room = grind (arith, take-append-drop)
fed_walked (x ∷ xs) buffer code (suc left) count nz full few room =
    -- the first byte belongs to the open block, and is written
    let rest = fed_walked xs (set buffer count x) code left (count + 1) (All-tail (λ b. b ≢ 0) x xs nz)
    (λ e. omega (arith, full e)) (λ h. omega (arith, few (omega arith))) (omega (arith, length-set buffer count x)) in
    grind (arith, All-head, length-set, ne_eqb, lt-ltb, over-cons)
fed_walked (x ∷ xs) buffer code zero count nz full few room =
    -- the first byte is a code, and a zero is written
    let rest = fed_walked xs (set buffer count 0) x (x - 1) (count + 1) (All-tail (λ b. b ≢ 0) x xs nz)
    (λ e. omega (arith, few (omega arith))) (λ h. omega (arith, few (omega arith))) (omega (arith, length-set buffer count 0)) in
    grind (arith, All-head, length-set, over, ne_eqb, lt-ltb, over-cons)

-- `walked` of xs and ys: first of xs, and then of ys from the last code of xs on
pub walked-append : (code n : ℕ) (xs ys : List ℕ) → walked code n (xs ++ ys) ≡ let w = walked code n xs in let v = walked w.1 w.2 ys in (w.0 ++ v.0, v.1, v.2)
walked-append code n [] ys = refl
walked-append code (suc n) (x ∷ xs) ys = grind (arith, walked-append code n xs ys)
walked-append code zero (x ∷ xs) ys = grind (arith, walked-append x (x - 1) xs ys)

-- bytes that end before the next code stay as they are
pub walked-past : (code n : ℕ) (bytes : List ℕ) → length bytes ≤ n → walked code n bytes ≡ (bytes, code, n - length bytes)
walked-past code n [] past = grind arith
walked-past code (suc n) (b ∷ bytes) past = grind (arith, walked-past code n bytes (omega arith))
walked-past code zero (c ∷ bytes) past = grind arith

-- if a code is among the bytes, the code before them doesn't matter
pub walked-any : (code code' n : ℕ) (bytes : List ℕ) → n < length bytes → walked code n bytes ≡ walked code' n bytes
walked-any code code' n [] some = grind arith
walked-any code code' (suc n) (b ∷ bytes) some = grind (arith, walked-any code code' n bytes (omega arith))
walked-any code code' zero (c ∷ bytes) some = refl

-- the bytes after a code `first` have another code; a zero is written over the first such code
module _ (first : ℕ) (bytes : List ℕ) (some : 0 < first) (more : first ≤ length bytes) where
  -- the code after `first`
  abbrev next : ℕ
  next = get_or bytes (first - 1) 0

  -- the bytes, with a zero over this code
  abbrev marked : List ℕ
  marked = set bytes (first - 1) 0

  -- the bytes after this code don't change
  pub behind-code : take (length marked - first) (drop first marked) ≡ drop first bytes
  behind-code = grind (arith, length-drop, drop-set-lt, take_all)

  -- this code and the bytes after it have no zero
  pub next-nonzero : HasNoZero (first ∷ bytes) → HasNoZero (next ∷ drop first bytes)
  next-nonzero nz =
      let others = All-tail (λ b. b ≢ 0) first bytes nz in
      All-cons (λ b. b ≢ 0) next (drop first bytes) (All-get_or (λ b. b ≢ 0) bytes (first - 1) 0 (omega arith) others) (All-drop (λ b. b ≢ 0) first bytes others)

  -- the bytes before this code stay as they are, and no byte of the first block is missing after them
  front : walked first (first - 1) (take (first - 1) bytes) ≡ (take (first - 1) bytes, first, 0)
  front = grind (arith, walked-past, length-take-le)

  -- If `ys` is the walk over the bytes after this code, then `marked` with `ys` in place of these bytes is the walk
  -- over all bytes.
  pub walked-next : (ys : List ℕ) (code left : ℕ) → IsWalked ys code left next (next - 1) (drop first bytes) → IsWalked (put_mid first (length marked - first) marked ys) code left first (first - 1) bytes
  walked-next ys code left e =
      -- the bytes are those of the first block, the next code, and the bytes after it (`cut`); the result has a zero in
      -- place of this code, and `ys` after it (`put`)
      let cut : bytes ≡ take (first - 1) bytes ++ (next ∷ drop first bytes) = grind (arith, take-append-drop, drop_more) in
      let put : put_mid first (length marked - first) marked ys ≡ take (first - 1) bytes ++ (0 ∷ ys) = grind (arith, drop_all, length-drop, take_more_set, append-nil, append_assoc) in
      grind (arith, walked-append, front)

-- The walk over the bytes before index `at` is done, and its last block ends there. `now` are the bytes with a zero over
-- each code so far. The byte at `at` is the next code: a zero is written over it, and the walk is done over its block.
module _ (first code at : ℕ) (bytes now : List ℕ) (inside : at < length bytes) (same : length now ≡ length bytes)
    (done : IsWalked (take at now) code 0 first (first - 1) (take at bytes)) (rest : drop at now ≡ drop at bytes) where
  -- the next code
  abbrev here : ℕ
  here = get_or now at 0

  cons-same : here ∷ drop (at + 1) now ≡ get_or bytes at 0 ∷ drop (at + 1) bytes
  cons-same = sym (drop_more now at 0 (omega arith)) ∙ rest ∙ drop_more bytes at 0 inside

  -- the code is as it was
  pub code-same : here ≡ get_or bytes at 0
  code-same = let e = cons-same in cc

  pub code-some : HasNoZero bytes → 0 < here
  code-some nz = omega (arith, code-same, All-get_or (λ b. b ≢ 0) bytes at 0 inside nz)

  module _ (some : 0 < here) where
    -- the other bytes of its block, as many as there are
    abbrev block : List ℕ
    block = take (here - 1) (drop (at + 1) bytes)

    -- the bytes after this code are as they were
    after : drop (at + 1) now ≡ drop (at + 1) bytes
    after = let e = cons-same in cc

    split : at + here ≡ at + 1 + (here - 1)
    split = omega arith

    cut : take (at + here) bytes ≡ take at bytes ++ (here ∷ block)
    cut = rw (split, take-add (at + 1) (here - 1) bytes, take_more bytes at 0 inside, append_assoc, sym code-same) refl

    put : take (at + here) (set now at 0) ≡ take at now ++ (0 ∷ block)
    put = rw (split, take-add (at + 1) (here - 1) (set now at 0), take_more_set now at 0 (omega arith), drop-set-lt (at + 1) now at 0 (omega arith), after, append_assoc) refl

    long : length block ≤ here - 1
    long = omega (arith, length-take {A = ℕ})

    left : at + here - length (set now at 0) ≡ here - 1 - length block
    left = omega (arith, length-take (here - 1) (drop (at + 1) bytes), length-drop (at + 1) bytes, length-set now at 0)

    pub walked-on : IsWalked (take (at + here) (set now at 0)) here (at + here - length (set now at 0)) first (first - 1) (take (at + here) bytes)
    walked-on = rw (cut, put, left) (grind (arith, walked-append, walked-past, long))

    pub rest-on : drop (at + here) (set now at 0) ≡ drop (at + here) bytes
    rest-on = drop-set-lt (at + here) now at 0 (omega arith) ∙ ap (λ n. drop n now) split ∙ sym (drop-drop (here - 1) (at + 1) now) ∙ ap (drop (here - 1)) after ∙ drop-drop (here - 1) (at + 1) bytes ∙ ap (λ n. drop n bytes) (sym split)
