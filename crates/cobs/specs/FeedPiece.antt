-- The result of `feed_piece`: a streaming decoder is fed bytes up to the end of a piece.
use Rattle.std.specs.Prelude.{ℕ, ◌≡◌, ◌≤◌, List, [], ◌∷◌, ◌++◌, length, take, drop, Option, Some, None, Result, Ok, Err, IfSome}
use Rattle.std.specs.List.{Contains}
use Rattle.cobs.specs.Stream.{Outcome, Message, Broken, TooLong, stream_outcomes, unended}
use Rattle.cobs.specs.Feed.{Phase, Idle, PhaseAfter, DecoderAfter, Feeds}
use Rattle.cobs.specs.Overwritten.{overwritten}
use Rattle.cobs.specs.Piece.{output}
use Rattle.cobs.specs.Push.{last_piece}
use Rattle.cobs.specs.declared.error.DecodeError.{DecodeError}
use Rattle.cobs.specs.declared.error.DecodeError.TheVariants.{EmptyFrame, InvalidFrame, TargetBufTooSmall}
use Rattle.cobs.specs.declared.dec.frame_decoder.PieceEnd.{PieceEnd}
use Rattle.cobs.specs.declared.dec.frame_decoder.PieceEnd.TheVariants as ends

-- the two outcomes are equal, or both are messages of the same length
abbrev pub AreAlike : Outcome → Outcome → Type 0
AreAlike (Message m) (Message k) = length m ≡ length k
AreAlike (Message m) (Broken count) = ⊥
AreAlike (Message m) TooLong = ⊥
AreAlike (Broken count) other = Broken count ≡ other
AreAlike TooLong other = TooLong ≡ other

-- the two lists have the same length, their first outcomes are alike (`AreAlike`), and their other outcomes are equal
abbrev pub AreAlikeAtFirst : List Outcome → List Outcome → Type 0
AreAlikeAtFirst [] [] = Unit {0}
AreAlikeAtFirst [] (y ∷ ys) = ⊥
AreAlikeAtFirst (x ∷ xs) [] = ⊥
AreAlikeAtFirst (x ∷ xs) (y ∷ ys) = AreAlike x y × (xs ≡ ys)

-- the bytes are fed one after another, and change buffer and phase to `buffer'` and `phase'`; `feed` may return any
-- result for each byte
abbrev pub FeedsEach : List ℕ → Phase → List ℕ → List ℕ → Phase → Type 0
FeedsEach buffer phase [] buffer' phase' = (buffer' ≡ buffer) × (phase' ≡ phase)
FeedsEach buffer phase (byte ∷ bytes) buffer' phase' =
    (returned : Result (Option ℕ) DecodeError) × (between : List ℕ) × (phase_between : Phase) × Feeds buffer phase byte returned between phase_between
    × FeedsEach between phase_between bytes buffer' phase'

-- feeding these bytes changes a decoder's buffer and phase to `buffer'` and `phase'`, and `given` is the list of the
-- outcomes of the pieces that end in the bytes
pub record TakesBytes (buffer : List ℕ) (phase : Phase) (bytes : List ℕ) (given : List Outcome) (buffer' : List ℕ) (phase' : Phase) : Type 0 where
  pub len : length buffer' ≡ length buffer
  -- the fields `len` and `feeds` hold in every phase; in the other fields, p is the front of a piece that had been fed
  -- before these bytes
  pub feeds : FeedsEach buffer phase bytes buffer' phase'
  pub after : (p : List ℕ) → DecoderAfter buffer phase p → DecoderAfter buffer' phase' (unended (p ++ bytes))
  pub outcomes : (p : List ℕ) → DecoderAfter buffer phase p → given ≡ stream_outcomes (p ++ bytes) (length buffer)
  -- the following fields hold even if the caller wrote to the buffer while p was fed or later. If the first outcome is
  -- a message, its bytes may then differ.
  pub phased : (p : List ℕ) → PhaseAfter (length buffer) phase p → PhaseAfter (length buffer) phase' (unended (p ++ bytes))
  pub alike : (p : List ℕ) → PhaseAfter (length buffer) phase p → AreAlikeAtFirst given (stream_outcomes (p ++ bytes) (length buffer))
  pub after_zero : (p : List ℕ) → PhaseAfter (length buffer) phase p → Contains bytes 0 → DecoderAfter buffer' phase' (unended (p ++ bytes))

-- the outcome that a `PieceEnd` means; `buffer` is the buffer after the end of the piece
abbrev pub outcome_at : PieceEnd → List ℕ → Outcome
outcome_at (ends.Message n) buffer = Message (take n buffer)
outcome_at (ends.Broken count) buffer = Broken count
outcome_at ends.TooLong buffer = TooLong

-- the `PieceEnd` that the result of `feed` for a zero means; `None` if no piece has ended
abbrev pub end_reported : Result (Option ℕ) DecodeError → Option PieceEnd
end_reported (Ok None) = None
end_reported (Ok (Some n)) = Some (ends.Message n)
end_reported (Err EmptyFrame) = None
end_reported (Err (InvalidFrame count)) = Some (ends.Broken count)
end_reported (Err TargetBufTooSmall) = Some ends.TooLong

-- if this end of a piece reports a message, the message fits a buffer of this length
abbrev pub IsWithin : ℕ → PieceEnd → Type 0
IsWithin len (ends.Message n) = n ≤ len
IsWithin len (ends.Broken count) = Unit {0}
IsWithin len ends.TooLong = Unit {0}

-- if this end of a piece reports a number of bytes, the number is at most the length of the buffer
abbrev pub IsCountWithin : ℕ → PieceEnd → Type 0
IsCountWithin len (ends.Message n) = n ≤ len
IsCountWithin len (ends.Broken count) = count ≤ len
IsCountWithin len ends.TooLong = Unit {0}

-- the bytes that a call of `feed_piece` with this result consumed: those up to and including the zero that ended a
-- piece, or all bytes if no piece ended
abbrev pub bytes_taken : List ℕ → Option (PieceEnd × ℕ) → List ℕ
bytes_taken bytes None = bytes
bytes_taken bytes (Some (end, count)) = take count bytes

-- the outcomes that a call of `feed_piece` with this result reported, a list of at most one outcome
abbrev pub outcomes_taken : Option (PieceEnd × ℕ) → List ℕ → List Outcome
outcomes_taken None buffer = []
outcomes_taken (Some (end, count)) buffer = outcome_at end buffer ∷ []

-- the byte at index `count - 1` is a zero, and no piece ends before it, for a decoder with this phase and a buffer of n
-- bytes (the field `outcomes` of `TakesBytes` says that this zero ends a piece)
pub record EndsPiece (n : ℕ) (phase : Phase) (bytes : List ℕ) (count : ℕ) : Type 0 where
  pub front : List ℕ
  pub taken : take count bytes ≡ front ++ 0 ∷ []
  pub none_before : (p : List ℕ) → PhaseAfter n phase p → stream_outcomes (p ++ front) n ≡ []

-- `feed_piece` of these bytes has this result, and changes the decoder's buffer and phase to `buffer'` and `phase'`. It
-- consumes the bytes up to and including the first zero that ends a piece, or all bytes if no piece ends in them.
pub record TakesPiece (buffer : List ℕ) (phase : Phase) (bytes : List ℕ) (result : Option (PieceEnd × ℕ)) (buffer' : List ℕ) (phase' : Phase) : Type 0 where
  pub takes : TakesBytes buffer phase (bytes_taken bytes result) (outcomes_taken result buffer') buffer' phase'
  pub ends : IfSome result (λ found. EndsPiece (length buffer) phase bytes found.1)
  -- the buffer begins with the output of the last piece, or with as much of this output as fits; the other bytes of the
  -- buffer are as they were
  pub holds : (p : List ℕ) → DecoderAfter buffer phase p → buffer' ≡ overwritten buffer (output (last_piece (p ++ bytes_taken bytes result)))
  pub untouched : (p : List ℕ) → PhaseAfter (length buffer) phase p
      → let written = length (output (last_piece (p ++ bytes_taken bytes result))) in drop written buffer' ≡ drop written buffer
  pub bound : (p : List ℕ) → PhaseAfter (length buffer) phase p → IfSome result (λ found. IsCountWithin (length buffer) found.0)
  -- the remaining fields hold in every phase
  pub idle : IfSome result (λ found. phase' ≡ Idle)
  pub within : IfSome result (λ found. (found.1 ≤ length bytes) × IsWithin (length buffer) found.0)
