-- The provided `feed_piece` feeds one byte after another. Each byte continues the piece (`piece-more`), or is a zero
-- that ends it (`piece-ended`).
use Rattle.std.proofs.lemmas.List.{take_all}
use Rattle.std.proofs.Common.{arith, refl}
use Rattle.cobs.proofs.streaming.ByByteLemmas.{piece-nothing, piece-more, piece-ended}
use Rattle.cobs.proofs.dec.frame_decoder.FrameDecoder.feed_piece.Goals as goal

-- before the first byte
pub by_byte-init : goal.by_byte-init
by_byte-init g c = record { taken = piece-nothing _ _; same_loan = refl }

-- a zero that ends a piece
pub returns-in-Some-clause-takes : goal.returns-in-Some-clause-takes
-- the last argument: the result of this zero reports the end that the call returns
returns-in-Some-clause-takes g c = piece-ended _ _ c.by_byte-test.true c.by_byte.invariant.taken c.feed_byte-returned.ensures.feeds _ c.if-byte-eq0.true (grind arith)

-- a byte that ends no piece: a zero for which `reported` returned `None`, or a nonzero byte
pub by_byte-preserved : goal.by_byte-preserved
by_byte-preserved g c = record {
  -- a zero reports no end here (first branch), and in the second branch the byte isn't a zero
  taken = piece-more _ _ c.by_byte-test.true c.by_byte.invariant.taken c.feed_byte-returned.ensures.feeds (λ z. elim c.if-byte-eq0.branch [
    | goal.then-byte-eq0+in_default w ↦ grind arith
    | goal.else-byte-eq0 w ↦ grind arith
  ]);
  same_loan = grind arith;
}

-- all bytes are fed, and no piece has ended
pub returns-clause-takes : goal.returns-clause-takes
returns-clause-takes g c = grind (arith, take_all)
