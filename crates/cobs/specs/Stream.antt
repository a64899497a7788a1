-- A stream is cut into pieces at its zeros. Each piece that a zero ends has an outcome.
use Rattle.std.specs.Prelude.{ℕ, ◌==◌, nat_le, Bool, true, false, List, [], ◌∷◌, length, filter, map, slice_get, Option, if◌then◌else◌}
use Rattle.std.specs.List.{slice_split}
use Rattle.cobs.specs.Grammar.{last_of}
use Rattle.cobs.specs.Piece.{output, is_whole}

-- the lists that result if a list is cut at its zeros: the bytes before the first zero, between two neighbouring zeros,
-- and after the last zero. Each of the resulting lists may be empty.
abbrev pub stretches : List ℕ → List (List ℕ)
stretches t = slice_split (λ byte. byte == 0) t

-- whether a list has at least one byte
abbrev pub is_nonempty : List ℕ → Bool
is_nonempty [] = false
is_nonempty (byte ∷ bytes) = true

-- all these lists except the last one
unfoldable pub but_last : List (List ℕ) → List (List ℕ)
but_last [] = []
but_last (xs ∷ []) = []
but_last (xs ∷ next ∷ more) = xs ∷ but_last (next ∷ more)

-- the first list of some lists, or the empty list if there are no lists
abbrev pub first_of : List (List ℕ) → List ℕ
first_of [] = []
first_of (xs ∷ more) = xs

-- the pieces of a stream that a zero ends, in order
unfoldable pub ended_pieces : List ℕ → List (List ℕ)
ended_pieces t = filter is_nonempty (but_last (stretches t))

-- the bytes of a stream after its last zero, or the whole stream if it has no zero
unfoldable pub unended : List ℕ → List ℕ
unended t = last_of (stretches t)

-- the first piece of a stream, which ends at a zero or at the end of the stream; `None` if the stream has no piece
unfoldable pub first_piece : List ℕ → Option (List ℕ)
first_piece t = slice_get (filter is_nonempty (stretches t)) 0

-- the bytes of a stream before its first zero, or the whole stream if it has no zero
unfoldable pub head : List ℕ → List ℕ
head t = first_of (stretches t)

-- the outcome of a piece that has ended: a message, a broken piece with the length of its output, or a piece whose
-- output is too long for the buffer
pub data Outcome : Type 0 where
  Message : (message : List ℕ) → Outcome
  Broken : (count : ℕ) → Outcome
  TooLong : Outcome

-- the outcome of a piece in a buffer of n bytes: `TooLong` if its output doesn't fit the buffer, otherwise `Message` if
-- the piece is whole, and `Broken` if it isn't
unfoldable pub outcome_of : List ℕ → ℕ → Outcome
outcome_of p n =
    if nat_le (length (output p)) n then (if is_whole p then Message (output p) else Broken (length (output p)))
    else TooLong

-- the outcomes of the pieces of a stream that a zero ends, in order, in a buffer of n bytes
unfoldable pub stream_outcomes : List ℕ → ℕ → List Outcome
stream_outcomes t n = map (λ p. outcome_of p n) (ended_pieces t)
