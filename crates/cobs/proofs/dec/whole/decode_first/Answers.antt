-- `feed_piece` takes the bytes of the source, as an idle decoder (`taken-some`). If no zero ends a piece, the result is
-- that for a zero after the source (`taken-last`, `taken-none`).
use Rattle.std.proofs.Common.{arith}
use Rattle.cobs.proofs.streaming.FirstTaken.{taken-some, taken-none, taken-last}
use Rattle.cobs.proofs.dec.whole.decode_first.Goals as goal

-- a zero ends the first piece
pub returns-in-Some : goal.returns-in-Some
returns-in-Some c = taken-some c.in-Some.ended.0 c.in-Some.ended.1 (rw c.in-Some.is at c.feed_piece.ensures.takes)

-- the end of the source ends the first piece
pub returns-in_ok-end-in-None : goal.returns-in_ok-end-in-None
returns-in_ok-end-in-None c = taken-last (rw c.in-None.is at c.feed_piece.ensures.takes) c.in_ok-end-in-None.end (grind arith)

-- there is no piece
pub returns-in_err-end-in-None : goal.returns-in_err-end-in-None
returns-in_err-end-in-None c = grind (arith, taken-none)
