-- The pieces that end in the first `at` bytes are shown (`ShowsBytes`). An iteration passes a part of the other bytes
-- to the decoder: it shows one piece more (`ShowsBytes-piece`), or takes the remaining bytes, in which no piece ends
-- (`ShowsBytes-rest`).
-- `law_9`: A stream may be cut anywhere.
-- `law_12`: The first and the last piece of a stream.
use Rattle.std.proofs.lemmas.Grind.{common_steps}
use Rattle.std.proofs.Common.{◌≡◌, ◌+◌, ◌-◌, ◌++◌, ℕ, List, length, take, drop, refl, ap, sym, ◌∙◌, arith, length-take, length-drop, take_all}
use Rattle.cobs.specs.FeedPiece.{outcome_at}
use Rattle.cobs_live.specs.Seen.{Seen, seen_in}
use Rattle.cobs_live.proofs.PartLemmas.{IsLastPiece-taken}
use Rattle.cobs_live.proofs.ShowLemmas.{ShowsBytes-piece, ShowsBytes-rest, ShowsBytes-start, ShowsBytes-through, shown_now, take-part, take-whole_part, with_text-empty}
use Rattle.cobs_live.proofs.TimeLemmas.{IsReadAt-next}
use Rattle.cobs_live.proofs.show.show_bytes.Goals as goal

-- before the first byte, no piece is shown, and the composed text is empty
pub by_part-init : goal.by_part-init
by_part-init g c = record { within = omega arith; len = refl; so_far = λ p d gone read t times r. rw (with_text-empty (g.W.Write.contents c.args.output.now) c.new-composed.result c.new-composed.ensures.empty) (ShowsBytes-start (assumption c.law_9.ensures) _ times p _ _ gone read _ _ _ d t r) }

-- a piece has ended in the part that was passed to the decoder
pub by_part-preserved : goal.by_part-preserved
by_part-preserved g c =
    -- the contract of `feed_piece`, which took `count` bytes and ended a piece
    let h = c.in-Some.ensures.takes in
    let at : ℕ = c.by_part.at in
    let count : ℕ = c.in-Some.count in
    -- the part that was passed to the decoder, and the bytes that are shown after this iteration (`is`)
    let part : List ℕ = take (length c.args.bytes.now - at) (drop at c.args.bytes.now) in
    let is : take (at + count) c.args.bytes.now ≡ take at c.args.bytes.now ++ take count part = take-part at count c.args.bytes.now part (sym (take_all (length part) part (omega arith))) h.within.0 in
    record {
      within = omega (arith, h.within.0, c.by_part.invariant.within, length-take (length c.args.bytes.now - at) (drop at c.args.bytes.now), length-drop at c.args.bytes.now);
      len = h.takes.len ∙ c.by_part.invariant.len;
      so_far = λ p d gone read t times r.
          -- s says what is shown so far, `counted` is the tally with this piece, and `last` is the piece that ended
          (let s = c.by_part.invariant.so_far p d gone read t times r in
          let counted = c.count_piece.ensures.one_more _ _ _ (outcome_at c.in-Some.end c.feed_piece.new.dest) (sym (ap (λ (seen : Seen). seen.kind) c.sight_of-piece.ensures.seen)) s.tallied in
          let last = IsLastPiece-taken (assumption c.law_9.ensures) c.law_12.ensures.last_ended h _ s.taken c.args.view.now.checksum c.args.view.now.partial (seen_in c.sight_of-piece.result) c.sight_of-piece.ensures.seen in
          rw is (ShowsBytes-piece (assumption c.law_9.ensures) s (take count part) (outcome_at c.in-Some.end c.feed_piece.new.dest) last.piece h.takes.len (h.takes.after _ s.taken) (h.takes.outcomes _ s.taken) last.ended
          (shown_now c.args.view.now times _ _ _ _ last.piece (c.with_part-piece.ensures.seen ∙ last.seen_so) counted s.timed c.in_ok-show_at_once.ensures.shown) counted
          (IsReadAt-next times _ _ _ _ s.timed c.advance.ensures.last c.advance.ensures.next)));
    }

-- no piece has ended in the part, and the decoder took all of it
pub by_part-preserved-in_default : goal.by_part-preserved-in_default
by_part-preserved-in_default g c =
    -- the contract of `feed_piece`, which took the whole part
    let h = c.in_default.ensures.takes in
    let at : ℕ = c.by_part.at in
    -- the part that was passed to the decoder, and the bytes that are shown after this iteration (`is`)
    let part : List ℕ = take (length c.args.bytes.now - at) (drop at c.args.bytes.now) in
    let is : take (at + length part) c.args.bytes.now ≡ take at c.args.bytes.now ++ part = take-whole_part at c.args.bytes.now part (sym (take_all (length part) part (omega arith))) in
    record {
      within = omega (arith, c.by_part.invariant.within, length-take (length c.args.bytes.now - at) (drop at c.args.bytes.now), length-drop at c.args.bytes.now);
      len = h.takes.len ∙ c.by_part.invariant.len;
      so_far = λ p d gone read t times r.
          (let s = c.by_part.invariant.so_far p d gone read t times r in
          rw is (ShowsBytes-rest (assumption c.law_9.ensures) s part h.takes.len (h.takes.after _ s.taken) (h.takes.outcomes _ s.taken)));
    }

-- after the loop, the composed text is written, so all bytes are shown in the output
pub returns-clause-shown : goal.returns-clause-shown
returns-clause-shown g c = λ p d gone read t times r.
    ShowsBytes-through _ _ _ (rw (take_all c.by_part.at c.args.bytes.now (omega arith)) at (c.by_part.invariant.so_far p d gone read t times r)) c.in_ok-write_to.ensures.written

-- the index of the next byte fits its type, and the index grows. Without this answer and the next three, the prover's
-- own search would find the proofs too, but slowly.
pub overflow_add-at : goal.overflow_add-at
overflow_add-at g c = grind (arith, common_steps)

pub overflow_add-at-in-by_part : goal.overflow_add-at-in-by_part
overflow_add-at-in-by_part g c = grind (arith, common_steps)

pub by_part-smaller-in_default : goal.by_part-smaller-in_default
by_part-smaller-in_default g c = grind (arith, common_steps)

pub by_part-smaller : goal.by_part-smaller
by_part-smaller g c = grind (arith, common_steps)
