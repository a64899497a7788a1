-- The clauses follow from the clause `takes` of the decoder's `feed_piece`. If a piece ended, it is the first piece
-- that ends in the bytes that were passed (`EndsFirstIn-taken`). If no piece ended, the decoder has taken all these
-- bytes.
use Rattle.std.proofs.Common.{arith, ℕ, List, [], length, refl, sym}
use Rattle.std.proofs.Math.Bridge.{le_prop}
use Rattle.std.proofs.Math.Logic.{∥∥₁_elim, ∥∥₁_map}
use Rattle.cobs.specs.FeedPiece.{outcome_at}
use Rattle.cobs.specs.Internal.KeptBytes.{IsOutcome}
use Rattle.cobs.specs.NextFrame.{IsNextWithin}
use Rattle.cobs.specs.Stream.{Outcome}
use Rattle.cobs.specs.declared.framed.Next.{Next}
use Rattle.cobs.specs.declared.framed.Next.TheVariants as nexts
use Rattle.cobs.proofs.streaming.FeedLemmas.{DecoderAfter-idle}
use Rattle.cobs.proofs.streaming.ReadingLemmas.{HasTaken-any, EndsFirstIn-taken, HasDecoded-taken}
use Rattle.cobs.proofs.framed.FrameReader.feed_through_end.Goals as goal

-- If each x of a type X shows that `next` means an outcome (`IsOutcome`), the number that `next` reports is at most the
-- length of the buffer. It is enough that X has an element: `∥ X ∥₁` says this without naming one. Here x is a front of
-- a piece that the decoder may have been fed.
next_within : {X : Type 0} (next : Next) (buffer : List ℕ) → ∥ X ∥₁ → (X → (outcome : Outcome) × IsOutcome next buffer outcome) → IsNextWithin (length buffer) next
next_within (nexts.Message n) buffer some h = ∥∥₁_elim some le_prop (λ x. (h x).1.1)
next_within (nexts.Broken count) buffer some h = ∥∥₁_elim some le_prop (λ x. (h x).1.1)
next_within nexts.TooLong buffer some h = tt
next_within (nexts.End unfinished) buffer some h = tt

-- no piece ended: the decoder has taken all bytes, and no outcome was reported
pub returns-in-None-clause-none : goal.returns-in-None-clause-none
returns-in-None-clause-none g c = λ p h.
    let t = c.in-None.ensures.takes.takes in
    -- the flag was right for p
    let was = HasTaken-any _ _ _ p c.args.self.now.has_taken h in (
      record { none_ended = rw t.len (sym (t.outcomes p h)); after = t.after p h; nothing_kept = refl },
      c.is_unfinished-self.ensures.unfinished p was.flag h.phased.piece,
    )

-- a piece ended: the facts of `ReportsFirst`, if the decoder had been fed p before
pub returns-in-Some-clause-first : goal.returns-in-Some-clause-first
returns-in-Some-clause-first g c = λ p h.
    -- `t`: how the decoder took the bytes up to the piece's end, for a decoder in any state
    let t = c.in-Some.ensures.takes in
    record {
      outcome = outcome_at c.in-Some.end _;
      is = grind arith;
      first = EndsFirstIn-taken _ t p h;
      decoded = HasDecoded-taken _ t p h;
    }

-- a piece ended: the reported number is at most the length of the buffer
pub returns-in-Some-clause-bound : goal.returns-in-Some-clause-bound
returns-in-Some-clause-bound g c =
    next_within c.next_at.result _ c.args.self.now.has_taken (grind arith)

-- a piece ended: the decoder is idle
pub returns-in-Some-clause-idle : goal.returns-in-Some-clause-idle
returns-in-Some-clause-idle g c = DecoderAfter-idle _ _ c.in-Some.ensures.takes.idle

-- the type's invariant, after no piece ended: the decoder has been fed some front of a piece
pub invariant_of-self-clause-has_taken : goal.invariant_of-self-clause-has_taken
invariant_of-self-clause-has_taken g c = ∥∥₁_map c.args.self.now.has_taken (λ w. (
  _,
  record {
    -- the decoder had been fed some front of a piece, `w.0`. After the call, it has been fed the unended bytes of `w.0`
    -- followed by the bytes that were passed.
    after = c.in-None.ensures.takes.takes.after w.0 w.1.after;
    flag = grind arith;
  },
))

-- the type's invariant, after a piece ended: the decoder has been fed no byte of a piece
pub invariant_of-self-in-Some-clause-has_taken : goal.invariant_of-self-in-Some-clause-has_taken
invariant_of-self-in-Some-clause-has_taken g c = ∣ ([], record { after = DecoderAfter-idle _ _ c.in-Some.ensures.takes.idle; flag = refl }) ∣₁
