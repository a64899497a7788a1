-- The result of `decode_first`: how the first piece of a source ends, and after how many bytes of the source.
use Rattle.std.specs.Prelude.{ℕ, List, length, Option, Some, None}
use Rattle.cobs.specs.Decode.{len_through_piece}
use Rattle.cobs.specs.Stream.{Outcome, Message, Broken, TooLong, outcome_of, first_piece}
use Rattle.cobs.specs.declared.dec.frame_decoder.PieceEnd.{PieceEnd}
use Rattle.cobs.specs.declared.dec.frame_decoder.PieceEnd.TheVariants as ends

-- the `PieceEnd` of a piece with this outcome
abbrev pub end_with : Outcome → PieceEnd
end_with (Message message) = ends.Message (length message)
end_with (Broken count) = ends.Broken count
end_with TooLong = ends.TooLong

-- the result of `decode_first` for a source and a buffer of n bytes, given the first piece of the source. The result
-- says how this piece ends, and how many bytes of the source there are up to the end of the piece, plus 1 if a zero
-- follows it. It is `None` if there is no piece.
abbrev pub end_by_piece : List ℕ → Option (List ℕ) → ℕ → Option (PieceEnd × ℕ)
end_by_piece source None n = None
end_by_piece source (Some p) n = Some (end_with (outcome_of p n), len_through_piece source p)

-- the result of `decode_first` for a source and a buffer of n bytes
abbrev pub end_of_first : List ℕ → ℕ → Option (PieceEnd × ℕ)
end_of_first source n = end_by_piece source (first_piece source) n
