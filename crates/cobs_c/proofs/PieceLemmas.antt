-- Lemmas for `jcobs_decode`: the result of `decode_first` meets `Decodes` (`found` if there is a piece, and `nothing`
-- otherwise).
use Rattle.std.proofs.Common.{◌≡◌, ◌∙◌, ◌≤◌, ℕ, List, length, Option, Some, None, refl, sym, ap, arith}
use Rattle.cobs.proofs.decoding.VectorSteps.{first_piece_within}
use Rattle.cobs.specs.Decode.{first_output, len_through_piece, outcome_result}
use Rattle.cobs.specs.FirstPiece.{end_by_piece, end_of_first}
use Rattle.cobs.specs.Overwritten.{overwritten}
use Rattle.cobs.specs.Piece.{output}
use Rattle.cobs.specs.Stream.{first_piece, outcome_of}
use Rattle.cobs.specs.declared.PieceEnd.{PieceEnd}
use Rattle.cobs.specs.declared.PieceEnd.TheVariants as ends
use Rattle.cobs_c.proofs.AnswerLemmas.{size_by-end, too_small-longer}
use Rattle.cobs_c.specs.Answer.{result_by, size_by}
use Rattle.cobs_c.specs.Decode.{Decodes}
use Rattle.cobs_c.specs.declared.answer.Answer.{Answer}

-- the end of the piece in a result of `decode_first`; any end if the result is `None`
abbrev end_in : Option (PieceEnd × ℕ) → PieceEnd
end_in None = ends.TooLong
end_in (Some (end, count)) = end

-- the number of bytes in a result of `decode_first`, or 0 if the result is `None`
abbrev count_in : Option (PieceEnd × ℕ) → ℕ
count_in None = 0
count_in (Some (end, count)) = count

-- `written` says that the output of the first piece, or as much of it as fits, was written to the buffer. `less` is a
-- clause of `law_1`: the output of a piece isn't longer than the piece.
module _ (source message message' : List ℕ) (written : message' ≡ overwritten message (first_output source)) (less : (p : List ℕ) → length (output p) ≤ length p) where
  found_by : (first : Option (List ℕ)) (end : PieceEnd) (consumed : ℕ) → first_piece source ≡ first → Some (end, consumed) ≡ end_by_piece source first (length message)
      → Decodes source message (result_by consumed (length message) (size_by (Some end))) message'
  -- without a piece, `decode_first` returns `None`, so this case is impossible
  found_by None end consumed is e = absurd (cc)
  found_by (Some p) end consumed is e =
      let n : ℕ = length message in
      -- the end and the number of bytes are those of the piece p
      let answer : result_by consumed n (size_by (Some end)) ≡ result_by (len_through_piece source p) n (outcome_result (outcome_of p n))
      = ap (λ (k : ℕ). result_by k n (size_by (Some end))) (ap count_in e) ∙ ap (λ (x : PieceEnd). result_by (len_through_piece source p) n (size_by (Some x))) (ap end_in e)
      ∙ ap (result_by (len_through_piece source p) n) (size_by-end (outcome_of p n)) in
      record {
        -- the source has a piece, so the field `none` says nothing
        none = λ none. absurd (let k = sym is ∙ none in cc);
        some = λ q is_q.
            -- q is the first piece of the source too, so q is p
            let same : p ≡ q = (let k = sym is ∙ is_q in cc) in
            answer ∙ ap (λ (x : List ℕ). result_by (len_through_piece source x) n (outcome_result (outcome_of x n))) same;
        buffer = written;
        -- a buffer as long as the source has room for the output: the output isn't longer than p, and p isn't longer
        -- than the source
        room = λ fits small. absurd (omega (arith, too_small-longer p (len_through_piece source p) n (ap (λ (a : Answer). a.status) (sym answer) ∙ small), less p, first_piece_within source p is, fits));
      }

  -- `decode_first` returned this end and this number of bytes
  pub found : (end : PieceEnd) (consumed : ℕ) → Some (end, consumed) ≡ end_of_first source (length message)
      → Decodes source message (result_by consumed (length message) (size_by (Some end))) message'
  found end consumed e = found_by (first_piece source) end consumed refl e
