-- Lemmas on `result_by`, the result for a length or an error, and `size_by`, the length or the error for the end of a
-- piece.
use Rattle.std.proofs.Common.{◌≡◌, ◌∙◌, ◌<◌, ℕ, List, length, Option, Some, Result, Err, refl, sym, ap, arith}
use Rattle.std.proofs.lemmas.Bool.{leb-false, cases_Bool}
use Rattle.cobs.specs.Decode.{outcome_result}
use Rattle.cobs.specs.FeedPiece.{end_reported}
use Rattle.cobs.specs.FirstPiece.{end_with}
use Rattle.cobs.specs.Piece.{output}
use Rattle.cobs.specs.Stream.{Outcome, Message, Broken, TooLong, outcome_of}
use Rattle.cobs.specs.declared.DecodeError.{DecodeError}
use Rattle.cobs.specs.declared.DecodeError.TheVariants.{EmptyFrame, InvalidFrame, TargetBufTooSmall}
use Rattle.cobs.specs.declared.PieceEnd.{PieceEnd}
use Rattle.cobs_c.specs.Answer.{result_by, size_by}
use Rattle.cobs_c.specs.declared.answer.Answer.{Answer}
use Rattle.cobs_c.specs.declared.answer.TheConstants.{TOO_SMALL}

-- the end of a piece with the outcome o has the length or the error of o
pub size_by-end : (o : Outcome) → size_by (Some (end_with o)) ≡ outcome_result o
size_by-end (Message m) = refl
size_by-end (Broken count) = refl
size_by-end TooLong = refl

-- the end that `PieceEnd::reported` returns for an error has this error
size_by-error : (error : DecodeError) → size_by (end_reported (Err error)) ≡ Err error
size_by-error EmptyFrame = refl
size_by-error (InvalidFrame count) = refl
size_by-error TargetBufTooSmall = refl

-- if a call of `cobs` returned an error, `answer_of` returned the result for this error
pub answer-refused : (consumed n : ℕ) {error : DecodeError} {returned : Result ℕ DecodeError} {end : Option PieceEnd} {answer : Answer} → returned ≡ Err error → end ≡ end_reported (Err error)
    → answer ≡ result_by consumed n (size_by end) → answer ≡ result_by consumed n returned
answer-refused consumed n {error} is reported answer =
    answer ∙ ap (λ (e : Option PieceEnd). result_by consumed n (size_by e)) reported
    ∙ ap (result_by consumed n) (size_by-error error ∙ sym is)

-- if the status for the outcome of p in a buffer of n bytes is TOO_SMALL, the output of p is longer than n
pub too_small-longer : (p : List ℕ) (consumed n : ℕ) → (result_by consumed n (outcome_result (outcome_of p n))).status ≡ TOO_SMALL → n < length (output p)
unfolding outcome_of
too_small-longer p consumed n e = grind (arith, cases_Bool, leb-false)
