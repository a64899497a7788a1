-- The results of the library's calls, as C sees them.
use Rattle.std.specs.Prelude.{ℕ, ◌+◌, ◌==◌, min, List, length, Option, Some, None, Result, Ok, Err, if◌then◌else◌}
use Rattle.cobs.specs.Stream.{head}
use Rattle.cobs.specs.declared.PieceEnd.{PieceEnd}
use Rattle.cobs.specs.declared.PieceEnd.TheVariants.{Message, Broken, TooLong}
use Rattle.cobs.specs.declared.DecodeError.{DecodeError}
use Rattle.cobs.specs.declared.DecodeError.TheVariants.{EmptyFrame, InvalidFrame, TargetBufTooSmall}
use Rattle.cobs_c.specs.declared.answer.Answer.{Answer}
use Rattle.cobs_c.specs.declared.answer.TheConstants.{OK, TOO_SMALL, BROKEN, EMPTY}

-- the result of a call that consumed `consumed` bytes and decoded them into a buffer of n bytes; the last argument is
-- the message's length or the decoder's error
abbrev pub result_by : ℕ → ℕ → Result ℕ DecodeError → Answer
result_by consumed n (Ok size) = record { status = OK; consumed = consumed; length = size }
result_by consumed n (Err EmptyFrame) = record { status = EMPTY; consumed = consumed; length = 0 }
result_by consumed n (Err (InvalidFrame count)) = record { status = BROKEN; consumed = consumed; length = count }
result_by consumed n (Err TargetBufTooSmall) = record { status = TOO_SMALL; consumed = consumed; length = n }

-- the message's length or the error, by how a piece or a frame ended; `None` if there was none
abbrev pub size_by : Option PieceEnd → Result ℕ DecodeError
size_by None = Err EmptyFrame
size_by (Some (Message size)) = Ok size
size_by (Some (Broken count)) = Err (InvalidFrame count)
size_by (Some TooLong) = Err TargetBufTooSmall

-- the number of bytes of a source up to and including its first zero, or the number of all bytes if there is no zero
abbrev pub head_end : List ℕ → ℕ
head_end source = min (length source) (length (head source) + 1)

-- how a piece of the stream ended, and after how many bytes, as the result of a push reports it; `None` if the result
-- reports no end of a piece
abbrev pub piece_end_of : Answer → Option (PieceEnd × ℕ)
piece_end_of returned =
    if returned.status == OK then Some (Message returned.length, returned.consumed)
    else (if returned.status == BROKEN then Some (Broken returned.length, returned.consumed)
    else (if returned.status == TOO_SMALL then Some (TooLong, returned.consumed) else None))
