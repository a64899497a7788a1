-- The list has the outcomes of the bytes so far (`TakesBytes`). Each piece that ends adds an outcome (`takes-piece`);
-- the last bytes, in which no piece ends, add none (`takes-all`).
use Rattle.std.proofs.Common.{refl, arith, Result, Ok, Err}
use Rattle.std.specs.Result.{OnErr}
use Rattle.std.proofs.lemmas.List.{map_push}
use Rattle.cobs.specs.Messages.{outcome_in}
use Rattle.cobs.proofs.streaming.FeedLemmas.{DecoderAfter-idle}
use Rattle.cobs.proofs.streaming.SoFar.{takes-nothing, takes-all, takes-piece, piece_count, outcome_there, phase_so_far}
use Rattle.cobs.proofs.stream.decode_stream.Goals as goal

-- a fact that holds in any case holds if the result is an error
on_err : {T E P : Type 0} (result : Result T E) → P → OnErr result P
on_err (Ok value) fact = tt
on_err (Err error) fact = fact

-- at the start, no byte is decoded, and the list is empty
pub by_piece-init : goal.by_piece-init
by_piece-init g c = record { within = omega arith; so_far = rw c.new-outcomes.ensures.items (takes-nothing _ _); same_loan = refl }

-- if no piece ends, no outcome needs memory: a call that ran out of memory contradicts this (`outcome_there`), here for
-- the bytes of a message
pub returns-in_err-frame_outcome-clause-succeeds : goal.returns-in_err-frame_outcome-clause-succeeds
returns-in_err-frame_outcome-clause-succeeds g c = λ p h none. absurd (outcome_there _ _ _ _ c.by_piece.invariant.so_far c.in-Some.ensures.takes p h none)

-- if no piece ends, no outcome is added to the list: a call that ran out of memory contradicts this (`outcome_there`)
pub returns-in_err-push-clause-succeeds : goal.returns-in_err-push-clause-succeeds
returns-in_err-push-clause-succeeds g c = λ p h none. absurd (outcome_there _ _ _ _ c.by_piece.invariant.so_far c.in-Some.ensures.takes p h none)

-- memory ran out at the end of a piece, when the decoder is idle
pub returns-in_err-frame_outcome-clause-out_of_memory : goal.returns-in_err-frame_outcome-clause-out_of_memory
returns-in_err-frame_outcome-clause-out_of_memory g c = on_err _ (DecoderAfter-idle _ _ c.in-Some.ensures.takes.idle)

-- memory ran out for the list at the end of a piece, when the decoder is idle
pub returns-in_err-push-clause-out_of_memory : goal.returns-in_err-push-clause-out_of_memory
returns-in_err-push-clause-out_of_memory g c = on_err _ (DecoderAfter-idle _ _ c.in-Some.ensures.takes.idle)

-- one more piece has ended, and its outcome is in the list
pub by_piece-preserved : goal.by_piece-preserved
by_piece-preserved g c = record {
  within = grind arith;
  -- the list grew by the outcome of this piece, which is read from the buffer as it was at the piece's end
  so_far = rw (c.in_ok-push.ensures.items, map_push outcome_in c.by_piece.outcomes.items c.in_ok-frame_outcome.field-0, c.in_ok-frame_outcome.ensures, c.buffer.ensures.value)
      (takes-piece _ _ _ _ c.by_piece.invariant.so_far c.in-Some.ensures.takes);
  same_loan = grind arith;
}

-- the call that ended a piece consumed at least one byte, the zero after the piece, so fewer bytes are left
pub by_piece-smaller : goal.by_piece-smaller
by_piece-smaller g c = grind (arith, piece_count)

-- after the loop, no piece ends in the bytes that are left; each clause is a field of `takes-all`
pub returns-clause-outcomes : goal.returns-clause-outcomes
returns-clause-outcomes g c = (takes-all _ _ c.by_piece.invariant.so_far c.in_default.ensures.takes).outcomes

-- the clause `after`, from `takes-all`
pub returns-clause-after : goal.returns-clause-after
returns-clause-after g c = (takes-all _ _ c.by_piece.invariant.so_far c.in_default.ensures.takes).after

-- the clause `alike`, from `takes-all`
pub returns-clause-alike : goal.returns-clause-alike
returns-clause-alike g c = (takes-all _ _ c.by_piece.invariant.so_far c.in_default.ensures.takes).alike

-- the clause `phase_after`, from `takes-all`
pub returns-clause-phase_after : goal.returns-clause-phase_after
returns-clause-phase_after g c = phase_so_far (takes-all _ _ c.by_piece.invariant.so_far c.in_default.ensures.takes)

-- the clause `after_zero`, from `takes-all`
pub returns-clause-after_zero : goal.returns-clause-after_zero
returns-clause-after_zero g c = (takes-all _ _ c.by_piece.invariant.so_far c.in_default.ensures.takes).after_zero
