-- The results of the functions that decode whole frames, and the bytes of the functions' buffers after the call.
use Rattle.std.specs.Prelude.{◌≡◌, ⊤, ℕ, ◌+◌, ◌==◌, nat_le, min, List, [], ◌∷◌, length, Option, Some, None, Result, Ok, Err, if◌then◌else◌}
use Rattle.std.specs.List.{prefix_len}
use Rattle.std.specs.Result.{result_map_both}
use Rattle.cobs.specs.Overwritten.{overwritten}
use Rattle.cobs.specs.Piece.{output, kept_output, is_whole}
use Rattle.cobs.specs.Stream.{Outcome, Message, Broken, TooLong, outcome_of, first_piece, head}
use Rattle.cobs.specs.declared.error.DecodeReport.{DecodeReport}
use Rattle.cobs.specs.declared.error.DecodeError.{DecodeError}
use Rattle.cobs.specs.declared.error.DecodeError.TheVariants.{EmptyFrame, InvalidFrame, TargetBufTooSmall}
use Rattle.cobs.specs.declared.error.DecodeVecError.{DecodeVecError}
use Rattle.cobs.specs.declared.error.DecodeVecError.TheVariants.{Decode, Memory}

-- how many zeros a source begins with
abbrev pub leading_zeros : List ℕ → ℕ
leading_zeros source = prefix_len (λ byte. byte == 0) source

-- the number of bytes of a source from its start to the end of its first piece p, plus 1 if a zero follows p
abbrev pub len_through_piece : List ℕ → List ℕ → ℕ
len_through_piece source p = min (length source) (leading_zeros source + length p + 1)

-- the result that a decoder returns for an outcome: the message's length, or an error
abbrev pub outcome_result : Outcome → Result ℕ DecodeError
outcome_result (Message message) = Ok (length message)
outcome_result (Broken count) = Err (InvalidFrame count)
outcome_result TooLong = Err TargetBufTooSmall

-- the result as a report, which has the number of bytes consumed and the message's length; an error stays the same
abbrev pub report_result : ℕ → Result ℕ DecodeError → Result DecodeReport DecodeError
report_result parsed (Ok size) = Ok (record { parsed_size = parsed; frame_size = size })
report_result parsed (Err error) = Err error

-- the result of `decode` for a source and a buffer of n bytes: the result for the first piece of the source, or an
-- error if the source has no piece
abbrev pub result_of_decode : List ℕ → ℕ → Result DecodeReport DecodeError
result_of_decode [] n = Err EmptyFrame
result_of_decode (byte ∷ bytes) n =
    let source = byte ∷ bytes in
    elim (first_piece source) [
      | None ↦ Err (InvalidFrame 0)
      | Some p ↦ elim (outcome_of p n) [
        | Message message ↦ Ok (record { parsed_size = len_through_piece source p; frame_size = length message })
        | Broken count ↦ Err (InvalidFrame count)
        | TooLong ↦ Err TargetBufTooSmall
      ]
    ]

-- the output of a piece, or the empty list if there is no piece
abbrev pub output_of : Option (List ℕ) → List ℕ
output_of None = []
output_of (Some p) = output p

-- the output of the first piece of a source. `decode` writes these bytes, or as many of them as fit its buffer.
abbrev pub first_output : List ℕ → List ℕ
first_output source = output_of (first_piece source)

-- the message of h, or an error if h is broken. h consists of the bytes before the first zero of a source. If h is
-- empty, its message is empty.
abbrev pub message_of_head : List ℕ → Result (List ℕ) DecodeError
message_of_head [] = Ok []
message_of_head (byte ∷ bytes) =
    let h = byte ∷ bytes in
    if is_whole h then Ok (output h) else Err (InvalidFrame (length (kept_output h)))

-- the result for h, the bytes before the first zero of a source: the length of the message of h, or an error with the
-- length of the kept output of h
abbrev pub head_result : List ℕ → Result ℕ DecodeError
head_result h = result_map_both length (λ error. error) (message_of_head h)

-- the result of `decode_in_place` for a buffer
abbrev pub result_in_place : List ℕ → Result ℕ DecodeError
result_in_place [] = Err EmptyFrame
result_in_place (byte ∷ bytes) = head_result (head (byte ∷ bytes))

-- the result of `decode_in_place_report` for a buffer: that of `decode_in_place`, together with the number of bytes
-- before the first zero
abbrev pub in_place_report : List ℕ → Result DecodeReport DecodeError
in_place_report buffer = report_result (length (head buffer)) (result_in_place buffer)

-- the buffer after `decode_in_place`. It begins with the message, or with the kept output if the frame is broken, and
-- its other bytes are as they were.
abbrev pub in_place : List ℕ → List ℕ
in_place buffer = overwritten buffer (kept_output (head buffer))

-- the result for h, the bytes before the first zero of a source, in a buffer of n bytes: `head_result`, or an error if
-- the kept output of h doesn't fit the buffer
abbrev pub head_result_within : List ℕ → ℕ → Result ℕ DecodeError
head_result_within h n = if nat_le (length (kept_output h)) n then head_result h else Err TargetBufTooSmall

-- the result of `decode_with_sentinel` for a source, the sentinel 0 and a buffer of n bytes
abbrev pub result_of_sentinel_decode : List ℕ → ℕ → Result ℕ DecodeError
result_of_sentinel_decode [] n = Err EmptyFrame
result_of_sentinel_decode (byte ∷ bytes) n = head_result_within (head (byte ∷ bytes)) n

-- the message of a piece, or the error if there is no piece or the piece is broken
abbrev pub message_of_piece : Option (List ℕ) → Result (List ℕ) DecodeError
message_of_piece None = Err (InvalidFrame 0)
message_of_piece (Some p) = if is_whole p then Ok (output p) else Err (InvalidFrame (length (output p)))

-- the message of the first piece of a source; or the error, if the source is empty, if it has no piece, or if its first
-- piece is broken
abbrev pub decoded : List ℕ → Result (List ℕ) DecodeError
decoded [] = Err EmptyFrame
decoded (byte ∷ bytes) = message_of_piece (first_piece (byte ∷ bytes))

-- the result of `decode_vec_with_sentinel` for a source and the sentinel 0: the message of the bytes before the first
-- zero; or the error, if the source is empty or these bytes are broken
abbrev pub decoded_head : List ℕ → Result (List ℕ) DecodeError
decoded_head [] = Err EmptyFrame
decoded_head (byte ∷ bytes) = message_of_head (head (byte ∷ bytes))

-- `returned` is the result of decoding a source. A call that returns a vector may return this error: either it is the
-- error in `returned`, or memory ran out.
abbrev pub IsErrorFor : Result (List ℕ) DecodeError → DecodeVecError → Type 0
IsErrorFor returned (Decode error) = returned ≡ Err error
IsErrorFor returned (Memory error) = ⊤
