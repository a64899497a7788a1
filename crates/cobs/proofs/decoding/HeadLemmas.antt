-- The bytes of a list before its first zero (`front_is_head`), by `head-is` of `OutcomeLemmas` and by std's lemmas on
-- the first place that passes a test. Then the first piece of a list: it begins after the leading zeros
-- (`first_piece_some`). This is by `first_piece_head` of `OutcomeLemmas`, which is about a list that begins with a
-- nonzero byte.
use Rattle.std.proofs.Common.{◌≡◌, ◌≢◌, ℕ, zero, suc, ◌+◌, ◌<◌, ◌≤◌, List, [], ◌∷◌, ◌++◌, length, take, drop, get_or, Some, None, refl, sym, ◌==◌, false, arith, length-drop, length-take}
use Rattle.std.proofs.lemmas.Bool.{cases_lt, ne_eqb, eq-eqb, eqb-true}
use Rattle.std.proofs.lemmas.List.{drop_more, get_or-take, get_or-drop, take-append-drop}
use Rattle.std.proofs.lemmas.List.Sums.{fails_before_first, passes_at_first, position_or_len_is, prefix_len_stops}
use Rattle.std.specs.List.{position_or_len}
use Rattle.std.proofs.lemmas.List.Elements.{All-get_or}
use Rattle.cobs.specs.Grammar.{HasNoZero}
use Rattle.cobs.specs.Stream.{first_piece, head}
use Rattle.cobs.specs.Decode.{leading_zeros}
use Rattle.cobs.proofs.decoding.OutcomeLemmas.{head-cons, head-is, length-head-is, first_piece_head}

-- if the first n bytes aren't zeros, and a zero or the end of the list follows them, they are the bytes before the
-- first zero
pub front_is_head : (t : List ℕ) (n : ℕ) → n ≤ length t → HasNoZero (take n t) → (n < length t → get_or t n 0 ≡ 0) → take n t ≡ head t
front_is_head t n within none stop =
    -- the first index that has a zero, or else the length of the list, is n
    let before : (k : ℕ) → k < n → (get_or t k 0 == 0) ≡ false = λ k below. grind (arith, get_or-take, All-get_or, ne_eqb, length-take) in
    let is : position_or_len (λ b. b == 0) t ≡ n = position_or_len_is (λ b. b == 0) t n 0 within before (λ more. eq-eqb _ 0 (stop more)) in
    rw (head-is t, is) refl

-- the front of t that has as many bytes as come before the first zero consists of these bytes
pub head-front : (t : List ℕ) → take (length (head t)) t ≡ head t
head-front t = rw (length-head-is t) (sym (head-is t))

-- a zero follows these bytes, unless they are the whole list
pub head-stop : (t : List ℕ) → length (head t) < length t → get_or t (length (head t)) 0 ≡ 0
head-stop t more = grind (arith, length-head-is, passes_at_first, eqb-true)

-- the list consists of the bytes before its first zero, this zero, and the rest
pub head-cut : (t : List ℕ) → length (head t) < length t → t ≡ head t ++ 0 ∷ drop (length (head t) + 1) t
head-cut t more = let n = length (head t) in cc (take-append-drop n t, drop_more t n 0 more, head-front t, head-stop t more)

-- if there is a zero at index i, at most i bytes are before the first zero
pub head-most : (t : List ℕ) (i : ℕ) → i < length t → get_or t i 0 ≡ 0 → length (head t) ≤ i
head-most t i more found = grind (arith, length-head-is, fails_before_first, cases_lt)

-- a list that begins with a nonzero byte has a byte before its first zero
pub head_some : (t : List ℕ) → 0 < length t → get_or t 0 0 ≢ 0 → 0 < length (head t)
head_some [] some other = grind arith
head_some (byte ∷ t) some other = grind (arith, head-cons)

-- the leading zeros don't change the first piece
pub first_piece_behind : (t : List ℕ) → first_piece t ≡ first_piece (drop (leading_zeros t) t)
unfolding first_piece
first_piece_behind [] = refl
first_piece_behind (zero ∷ t) = grind (arith, first_piece_behind t)
first_piece_behind (suc b ∷ t) = grind arith

-- the byte after the leading zeros isn't a zero
pub leading_zeros-stop : (t : List ℕ) → leading_zeros t < length t → get_or (drop (leading_zeros t) t) 0 0 ≢ 0
leading_zeros-stop t some = rw get_or-drop (let stop = prefix_len_stops (λ b. b == 0) t 0 some in grind arith)

-- no piece is in an empty list
pub first_piece_empty : (t : List ℕ) → length t ≡ 0 → first_piece t ≡ None
unfolding first_piece
first_piece_empty [] e = refl
first_piece_empty (byte ∷ t) e = grind arith

-- the first piece of a source that begins with a nonzero byte
pub first_piece_nonzero : (t : List ℕ) → 0 < length t → get_or t 0 0 ≢ 0 → first_piece t ≡ Some (head t)
first_piece_nonzero [] some other = grind arith
first_piece_nonzero (byte ∷ t) some other = first_piece_head byte t other

-- a source after its leading zeros
abbrev pub rest : List ℕ → List ℕ
rest source = drop (leading_zeros source) source

module _ (source : List ℕ) where
  -- if bytes follow the leading zeros, the first piece consists of those before the next zero
  pub first_piece_found : 0 < length (rest source) → first_piece source ≡ Some (head (rest source))
  first_piece_found some = grind (arith, first_piece_behind, first_piece_nonzero, rest, leading_zeros-stop, length-drop)

  -- if no byte follows the leading zeros, there is no piece
  pub first_piece_none : (0 < length (rest source) → get_or (rest source) 0 0 ≡ 0) → first_piece source ≡ None
  first_piece_none stop = grind (arith, length-drop, leading_zeros-stop, first_piece_behind, first_piece_empty)

  -- if the first `len` bytes after the leading zeros aren't zeros, and a zero or the end follows them, they are the
  -- first piece
  pub first_piece_some : (len : ℕ) → 0 < len → len ≤ length (rest source) → HasNoZero (take len (rest source)) → (len < length (rest source) → get_or (rest source) len 0 ≡ 0) → first_piece source ≡ Some (take len (rest source))
  first_piece_some len some within nonzero stop = grind (arith, first_piece_found, front_is_head, rest)
