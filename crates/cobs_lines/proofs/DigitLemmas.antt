-- Lemmas on the digits of bytes, which `write_digits` writes in chunks: the digits of two parts are the digits of all
-- bytes (`encode_with-append`), and no bytes have no digits (`encode_with-nil`). `of_ok` is about the result of any
-- call.
use Rattle.std.proofs.Common.{◌≡◌, ℕ, List, [], ◌∷◌, ◌++◌, Result, Ok, Err, IsOk, OnOk, slice_index, ◌/◌, ◌%◌, refl, ap}
use Rattle.std.proofs.lemmas.Bool.{false≢true}
use Rattle.hex.specs.Hex.{encode_with}

-- the digits of some bytes, followed by those of other bytes, are the digits of all these bytes
pub encode_with-append : (t xs ys : List ℕ) → encode_with t (xs ++ ys) ≡ encode_with t xs ++ encode_with t ys
unfolding encode_with
encode_with-append t [] ys = refl
-- the two digits of the first byte, looked up in the table t, come before the digits of the other bytes
encode_with-append t (x ∷ xs) ys = ap (λ (l : List ℕ). slice_index t (x / 16) ∷ slice_index t (x % 16) ∷ l) (encode_with-append t xs ys)

-- no bytes have no digits
pub encode_with-nil : (t : List ℕ) → encode_with t [] ≡ []
unfolding encode_with
encode_with-nil t = refl

-- if a result is an `Ok`, a fact that is stated for an `Ok` holds
pub of_ok : {A E P : Type 0} (r : Result A E) → IsOk r → OnOk r P → P
of_ok (Ok a) ok p = p
of_ok (Err e) ok p = absurd (false≢true ok)
