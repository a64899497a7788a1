-- The outcomes of the pieces among the first `at` bytes are in the list (`TakesBytes`), and the decoder still uses the
-- buffer that it was lent before the call (`same_loan`). The loop ends, because each iteration consumes at least one
-- byte, the zero that ends a piece.
use Rattle.std.proofs.Common.{◌≡◌, ◌≤◌, ◌-◌, length, take}
use Rattle.cobs.specs.Messages.{outcomes_in}
use Rattle.cobs.specs.FeedPiece.{TakesBytes}
use Rattle.cobs.proofs.stream.decode_stream.Given as goal

abbrev pub invariant-by_piece : goal.invariant-by_piece
invariant-by_piece g l =
    let bytes = g.D.FrameDecoder.bytes in
    let phase = g.D.FrameDecoder.phase in
    let loan = g.D.FrameDecoder.loan in
    record {
      within : l.at ≤ length l.bytes;
      so_far : TakesBytes (bytes l.fn.decoder) (phase l.fn.decoder) (take l.at l.bytes) (outcomes_in l.outcomes.items) (bytes l.decoder) (phase l.decoder);
      same_loan : loan l.decoder ≡ loan l.fn.decoder;
    }

abbrev pub decreases-by_piece : goal.decreases-by_piece
decreases-by_piece g l = length l.bytes - l.at
