-- The buffer holds the output of the last piece, by `holds` of `TakesPiece`. That piece is all bytes that were received
-- (`cut_off`), or all except the zero (`ended`), by `last` and `last_ended` of `law_12`.
-- `law_12`: The first and the last piece of a stream.
use Rattle.std.proofs.Common.{◌≡◌, ◌≢◌, ◌+◌, ◌∙◌, [], ◌∷◌, ◌++◌, List, ℕ, Option, Some, None, length, take, ap, arith, length-append, take_all}
use Rattle.std.proofs.lemmas.List.Elements.{All-take}
use Rattle.cobs.specs.Feed.{DecoderAfter, Phase}
use Rattle.cobs.specs.FeedPiece.{TakesPiece, outcome_at}
use Rattle.cobs.specs.Grammar.{HasNoZero}
use Rattle.cobs.specs.Headline.{IsPiece}
use Rattle.cobs.specs.Overwritten.{overwritten}
use Rattle.cobs.specs.Piece.{output}
use Rattle.cobs.specs.Push.{last_piece}
use Rattle.cobs.specs.Stream.{outcome_of, stream_outcomes, unended}
use Rattle.cobs.specs.declared.PieceEnd.{PieceEnd}
use Rattle.cobs_vectors.proofs.receivers.salvage.Goals as goal

-- an idle decoder got the bytes `received`. `no_outcomes` and `same` are clauses of `law_9`: bytes without a zero have
-- no outcome, and all of them are unended.
module _ (buffer buffer' received : List ℕ) (phase phase' : Phase) (idle : DecoderAfter buffer phase [])
    (no_outcomes : (x : List ℕ) (n : ℕ) → HasNoZero x → stream_outcomes x n ≡ [])
    (same : (x : List ℕ) → HasNoZero x → unended x ≡ x) where
  -- if no zero was received, the buffer holds the output of all received bytes; `last` is a clause of `law_12`
  cut_off : ((t : List ℕ) (n : ℕ) → stream_outcomes t n ≡ [] → last_piece t ≡ unended t)
      → (result : Option (PieceEnd × ℕ)) → TakesPiece buffer phase received result buffer' phase' → HasNoZero received
      → buffer' ≡ overwritten buffer (output received)
  -- no piece ended, as it must be without a zero
  cut_off last None t nonzero = grind arith
  cut_off last (Some (end, count)) t nonzero =
      -- a piece ended, which is impossible, because the bytes have no outcome
      let none = t.takes.outcomes [] idle ∙ no_outcomes (take count received) (length buffer) (All-take (λ b. b ≢ 0) count received nonzero) in
      absurd cc

  -- if a piece and a zero were received, the buffer holds the output of this piece; `last` is the clause `last_ended`
  -- of `law_12`
  ended : ((t : List ℕ) (n : ℕ) → stream_outcomes t n ≡ [] → last_piece (t ++ 0 ∷ []) ≡ unended t)
      → (result : Option (PieceEnd × ℕ)) → TakesPiece buffer phase received result buffer' phase'
      → (piece : List ℕ) → IsPiece piece → received ≡ piece ++ 0 ∷ []
      → ((end : PieceEnd) × (result ≡ Some (end, length piece + 1)) × (outcome_at end buffer' ≡ outcome_of piece (length buffer)))
      → buffer' ≡ overwritten buffer (output piece)
  -- no piece ended, which contradicts `ends`
  ended last None t piece is whole ends = grind arith
  ended last (Some (end, count)) t piece is whole ends =
      let n : ℕ = length buffer in
      -- the number of consumed bytes is the length of the piece and 1 (`counted`), so all bytes were consumed (`all`)
      let same_end : ◌≡◌ {A = PieceEnd × ℕ} (end, count) (ends.0, length piece + 1) = (let e = ends.1 in cc) in
      let counted : count ≡ length piece + 1 = ap (λ (x : PieceEnd × ℕ). x.1) same_end in
      let all : take count received ≡ piece ++ 0 ∷ [] = take_all count received (omega (arith, counted, ap length whole, length-append piece (0 ∷ []))) ∙ whole in
      t.holds [] idle ∙ ap (λ (x : List ℕ). overwritten buffer (output x)) (ap last_piece all ∙ last piece n (no_outcomes piece n is.1) ∙ same piece is.1)

pub returns-clause-cut_off : goal.returns-clause-cut_off
returns-clause-cut_off g c = cut_off _ _ _ _ _ ((c.law_14.ensures.idle _ _).1 c.requires) c.law_9.ensures.none c.law_9.ensures.same c.law_12.ensures.last _ c.feed_piece.ensures.takes

pub returns-clause-ended : goal.returns-clause-ended
returns-clause-ended g c = λ piece is whole.
    let takes = c.feed_piece.ensures.takes in
    ended _ _ _ _ _ ((c.law_14.ensures.idle _ _).1 c.requires) c.law_9.ensures.none c.law_9.ensures.same c.law_12.ensures.last_ended _ takes piece is whole
    (c.law_18.ensures.ends _ _ piece [] _ _ _ (rw whole at takes) c.requires is)
