-- The result of pushing bytes to a streaming decoder, and the decoder's buffer and phase after the push.
use Rattle.std.specs.Prelude.{ℕ, ◌≡◌, ◌≢◌, ◌+◌, ◌-◌, ◌<◌, ◌≤◌, ◌==◌, List, [], ◌∷◌, ◌++◌, length, take, drop, filter, slice_index, Option, Some, None, Result, Ok, Err, IfOk, IfSome, if◌then◌else◌}
use Rattle.cobs.specs.Grammar.{last_of}
use Rattle.cobs.specs.Piece.{output}
use Rattle.cobs.specs.Stream.{stretches, is_nonempty, unended, Outcome, Message, Broken, TooLong, stream_outcomes}
use Rattle.cobs.specs.Feed.{Phase, Idle, PhaseAfter, DecoderAfter, Feeds, result_for}
use Rattle.cobs.specs.Overwritten.{overwritten}
use Rattle.cobs.specs.Fields.Report.{parsed_size_of, frame_size_of}
use Rattle.cobs.specs.declared.error.DecodeReport.{DecodeReport}
use Rattle.cobs.specs.declared.error.PushError.{PushError}
use Rattle.cobs.specs.declared.error.DecodeError.{DecodeError}
use Rattle.cobs.specs.declared.error.DecodeError.TheVariants.{EmptyFrame, InvalidFrame, TargetBufTooSmall}

-- the last piece of a stream, which ends at a zero or at the end of the stream; the empty list if the stream has no
-- piece
unfoldable pub last_piece : List ℕ → List ℕ
last_piece t = last_of (filter is_nonempty (stretches t))

-- how many bytes a push with this result consumed: the number in the result, or the number of all bytes if the result
-- is `Ok(None)`
abbrev pub consumed_size : List ℕ → Result (Option DecodeReport) PushError → ℕ
consumed_size bytes (Ok None) = length bytes
consumed_size bytes (Ok (Some report)) = parsed_size_of report
consumed_size bytes (Err failure) = failure.parsed_size

-- the bytes that a push with this result consumed
abbrev pub consumed : List ℕ → Result (Option DecodeReport) PushError → List ℕ
consumed bytes result = take (consumed_size bytes result) bytes

-- the outcome of the piece that a zero ends, if `feed` returns this error for the zero; a list of at most one outcome
abbrev pub error_outcomes : DecodeError → List Outcome
error_outcomes EmptyFrame = []
error_outcomes (InvalidFrame count) = Broken count ∷ []
error_outcomes TargetBufTooSmall = TooLong ∷ []

-- the outcomes that the result of a push reports, a list of at most one outcome. A report stands for the message at the
-- front of the buffer. If the last byte consumed is a zero, an error stands for the outcome of the piece that this zero
-- ended. Otherwise an error stands for no outcome.
abbrev pub pushed_outcomes : List ℕ → Result (Option DecodeReport) PushError → List ℕ → List Outcome
pushed_outcomes bytes (Ok None) buffer = []
pushed_outcomes bytes (Ok (Some report)) buffer = Message (take (frame_size_of report) buffer) ∷ []
pushed_outcomes bytes (Err failure) buffer =
    if slice_index bytes (failure.parsed_size - 1) == 0 then error_outcomes failure.error else []

-- the bytes are fed one after another, and change buffer and phase to `buffer'` and `phase'`. `feed` returns `Ok(None)`
-- for each byte except the last one, and `returned` for the last byte. If there are no bytes, `returned` is `Ok(None)`.
abbrev pub FeedsInTurn : List ℕ → Phase → List ℕ → Result (Option ℕ) DecodeError → List ℕ → Phase → Type 0
FeedsInTurn buffer phase [] returned buffer' phase' = (returned ≡ Ok None) × (buffer' ≡ buffer) × (phase' ≡ phase)
FeedsInTurn buffer phase (byte ∷ []) returned buffer' phase' = Feeds buffer phase byte returned buffer' phase'
FeedsInTurn buffer phase (byte ∷ next ∷ bytes) returned buffer' phase' =
    (between : List ℕ) × (phase_between : Phase) × Feeds buffer phase byte (Ok None) between phase_between
    × FeedsInTurn between phase_between (next ∷ bytes) returned buffer' phase'

-- the result of `feed` for the last byte that a push with this result consumed
abbrev pub last_result : Result (Option DecodeReport) PushError → Result (Option ℕ) DecodeError
last_result (Ok None) = Ok None
last_result (Ok (Some report)) = Ok (Some (frame_size_of report))
last_result (Err failure) = Err failure.error

-- a push of the bytes changes the decoder's buffer and phase to `buffer'` and `phase'`, and has this result
pub record PushesBytes (buffer : List ℕ) (phase : Phase) (bytes : List ℕ)
    (result : Result (Option DecodeReport) PushError) (buffer' : List ℕ) (phase' : Phase) : Type 0 where
  -- `feed` returns `Ok(None)` for each byte that was consumed, except for the last one. For the last byte it returns
  -- the result that `last_result` derives from the result of the push.
  pub push_returns : (p : List ℕ) → PhaseAfter (length buffer) phase p → (place : ℕ) → place < consumed_size bytes result
      → result_for (unended (p ++ take place bytes)) (slice_index bytes place) (length buffer)
      ≡ (if place + 1 == consumed_size bytes result then last_result result else Ok None)
  -- the bytes that were consumed have been fed to the decoder
  pub phased : (p : List ℕ) → PhaseAfter (length buffer) phase p
      → PhaseAfter (length buffer) phase' (unended (p ++ consumed bytes result))
  pub after : (p : List ℕ) → DecoderAfter buffer phase p → DecoderAfter buffer' phase' (unended (p ++ consumed bytes result))
  -- the buffer begins with the output of the last piece, or with as much of this output as fits
  pub holds : (p : List ℕ) → DecoderAfter buffer phase p
      → buffer' ≡ overwritten buffer (output (last_piece (p ++ consumed bytes result)))
  pub untouched : (p : List ℕ) → PhaseAfter (length buffer) phase p
      → let written = length (output (last_piece (p ++ consumed bytes result))) in drop written buffer' ≡ drop written buffer
  -- the push reports each piece that ended in the bytes that were consumed
  pub outcomes : (p : List ℕ) → DecoderAfter buffer phase p
      → stream_outcomes (p ++ consumed bytes result) (length buffer) ≡ pushed_outcomes bytes result buffer'
  -- whatever the phase is, `Feeds` holds for each of the consumed bytes, one after another
  pub feeds : FeedsInTurn buffer phase (consumed bytes result) (last_result result) buffer' phase'
  -- if the result isn't `Ok(None)`, at least one byte was consumed
  pub some : last_result result ≢ Ok None → 0 < consumed_size bytes result
  pub within : consumed_size bytes result ≤ length bytes
  pub bound : IfOk result (λ found. IfSome found (λ report. frame_size_of report ≤ length buffer))
  pub zero_idle : (front : List ℕ) → consumed bytes result ≡ front ++ 0 ∷ [] → phase' ≡ Idle
  pub len : length buffer' ≡ length buffer
