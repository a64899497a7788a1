-- A buffer as long as the source has room for all bytes that are decoded from the source, by `output_within`. So the
-- results of `decode` and `decode_with_sentinel` for such a buffer give the values of `decoded` (`decoded-message`,
-- `decoded-rejected`) and `decoded_head` (`decoded_head-message`, `decoded_head-rejected`).
use Rattle.std.proofs.Common.{◌≡◌, ◌≢◌, ℕ, zero, suc, ◌<◌, ◌≤◌, List, [], ◌∷◌, length, take, Option, Some, None, Result, Ok, Err, if◌then◌else◌, arith, take_at, take_all, length-take}
use Rattle.std.specs.Result.{IfOk, IsErrAnd, MatchResult}
use Rattle.cobs.specs.Overwritten.{overwritten}
use Rattle.cobs.specs.Piece.{output, is_whole, kept_output}
use Rattle.cobs.specs.Stream.{outcome_of, first_piece, head}
use Rattle.cobs.specs.Fields.Report.{frame_size_of}
use Rattle.cobs.specs.Decode.{outcome_result, result_of_decode, output_of, first_output, message_of_piece, decoded, head_result, result_of_sentinel_decode, message_of_head, decoded_head}
use Rattle.cobs.specs.declared.error.DecodeReport.{DecodeReport}
use Rattle.cobs.specs.declared.error.DecodeError.{DecodeError}
use Rattle.cobs.specs.declared.error.DecodeError.TheVariants.{InvalidFrame, TargetBufTooSmall}
use Rattle.cobs.proofs.decoding.OutcomeLemmas.{output_within, first_piece_head, length-head}
use Rattle.cobs.proofs.decoding.OutcomeSteps.{result_by_piece}
use Rattle.cobs.proofs.decoding.SourceSteps.{result-fits}

-- What is known of the value in an `Ok` (`known`) stays known of it after `map_err`: `made` is the result before
-- `map_err`, `mapped` is the result after it, and `cases` is a clause of `map_err`.
pub kept-ok : {A E F : Type 0} (made : Result A E) (mapped : Result A F) (x : A)
    → (Known : A → Type 0) (Told : E → F → Type 0) → IfOk made Known
    → (cases : MatchResult made (λ y. mapped ≡ Ok y) (λ e. IsErrAnd mapped (Told e))) → mapped ≡ Ok x → Known x
kept-ok (Ok y) mapped x Known Told known cases is = grind arith
kept-ok (Err e) mapped x Known Told known cases is = grind arith

-- a buffer that has room begins with the bytes that are written
pub overwritten-begins : (buffer bytes : List ℕ) → length bytes ≤ length buffer → take (length bytes) (overwritten buffer bytes) ≡ bytes
overwritten-begins buffer bytes fits = grind (arith, take_at, take_all)

-- the first piece is no longer than the stream
pub first_piece_within : (t p : List ℕ) → first_piece t ≡ Some p → length p ≤ length t
unfolding first_piece
first_piece_within [] p is = absurd (cc)
first_piece_within (zero ∷ t) p is = grind (arith, (first_piece_within t p is))
first_piece_within (suc b ∷ t) p is = grind (arith, first_piece_head, length-head)

-- the result for a piece whose output fits n bytes
outcome_result-fits : (p : List ℕ) (n : ℕ) → length (output p) ≤ n → outcome_result (outcome_of p n) ≡ (if is_whole p then Ok (length (output p)) else Err (InvalidFrame (length (output p))))
unfolding outcome_of
outcome_result-fits p n fits = grind arith

-- the kept output is no longer than the piece
pub kept_within : (p : List ℕ) → length (kept_output p) ≤ length p
unfolding kept_output
kept_within p = grind (arith, output_within, length-take)

-- THE FIRST PIECE

-- the buffer is as long as the source
module _ (source : List ℕ) (n : ℕ) (room : n ≡ length source) where
  -- the result `returned` is this error, and the error isn't `TargetBufTooSmall`
  abbrev Rejected : Result (List ℕ) DecodeError → DecodeError → Type 0
  Rejected returned error = (returned ≡ Err error) × (error ≢ TargetBufTooSmall)

  -- if `decode` returns a report, the message of the first piece is at the front of the buffer
  piece-message : (report : DecodeReport) (old : List ℕ) (p : Option (List ℕ)) → first_piece source ≡ p → length old ≡ n → Ok report ≡ result_by_piece source p n
      → message_of_piece p ≡ Ok (take (frame_size_of report) (overwritten old (output_of p)))
  piece-message report old None is long e = absurd (cc)
  piece-message report old (Some p) is long e = grind (arith, first_piece_within, output_within, outcome_result-fits, overwritten-begins)

  -- the result of `decode`, by the first piece
  result-equals : 0 < length source → result_of_decode source n ≡ result_by_piece source (first_piece source) n
  result-equals some = grind arith

  -- the value of `decoded`, by the first piece
  decoded-is : 0 < length source → decoded source ≡ message_of_piece (first_piece source)
  decoded-is some = grind arith

  -- an error of `decode` is the error in `decoded`
  pub decoded-rejected : (error : DecodeError) → 0 < length source → Err error ≡ result_of_decode source n → Rejected (decoded source) error
  decoded-rejected error some e = grind (arith, first_piece_within, output_within, outcome_result-fits, result-equals)

  -- if `decode` returns a report, the message in `decoded` is at the front of the buffer
  pub decoded-message : (report : DecodeReport) (old new : List ℕ) → 0 < length source → length old ≡ n → Ok report ≡ result_of_decode source n → new ≡ overwritten old (first_output source)
      → decoded source ≡ Ok (take (frame_size_of report) new)
  decoded-message report old new some long e is = grind (arith, piece-message, result-equals)

  -- THE BYTES BEFORE THE FIRST ZERO

  -- the message of a source is that of the bytes before its first zero
  head-is : 0 < length source → decoded_head source ≡ message_of_head (head source)
  head-is some = grind arith

  -- an error for the bytes h before a zero is the error in `message_of_head`, and isn't `TargetBufTooSmall`
  rejected : (error : DecodeError) (h : List ℕ) → Err error ≡ head_result h → Rejected (message_of_head h) error
  rejected error h e = grind arith

  -- an error of `decode_with_sentinel` is the error in `decoded_head`
  pub decoded_head-rejected : (error : DecodeError) → 0 < length source → Err error ≡ result_of_sentinel_decode source n → Rejected (decoded_head source) error
  decoded_head-rejected error some e = grind (arith, kept_within, length-head, result-fits, head-is, rejected)

  -- if the bytes h before a zero are decoded, their message is at the front of the buffer
  message : (size : ℕ) (old : List ℕ) (h : List ℕ) → length h ≤ length old → Ok size ≡ head_result h → message_of_head h ≡ Ok (take size (overwritten old (kept_output h)))
  unfolding kept_output
  message size old h fits e = grind (arith, output_within, overwritten-begins)

  -- if `decode_with_sentinel` returns a length, the message in `decoded_head` is at the front of the buffer
  pub decoded_head-message : (size : ℕ) (old new : List ℕ) → 0 < length source → length old ≡ n → Ok size ≡ result_of_sentinel_decode source n → new ≡ overwritten old (kept_output (head source))
      → decoded_head source ≡ Ok (take size new)
  decoded_head-message size old new some long e is = grind (arith, length-head, head-is, message, kept_within, result-fits)
