-- The decoder has taken the first i bytes, and no piece has ended in them (`TakesPiece` with `None`). Its buffer is
-- still the same slice (`loan`). `l.fn.self` is the decoder before the call, and `l.self` is the decoder at the start
-- of the iteration.
use Rattle.std.proofs.Common.{◌≡◌, take, None}
use Rattle.cobs.specs.FeedPiece.{TakesPiece}
use Rattle.cobs.proofs.dec.frame_decoder.FrameDecoder.feed_piece.Given as goal

abbrev pub invariant-by_byte : goal.invariant-by_byte
invariant-by_byte g l =
    let bytes = g.Self.FrameDecoder.bytes in
    let phase = g.Self.FrameDecoder.phase in
    let loan = g.Self.FrameDecoder.loan in
    record {
      taken : TakesPiece (bytes l.fn.self) (phase l.fn.self) (take l.i l.stream) None (bytes l.self) (phase l.self);
      same_loan : loan l.self ≡ loan l.fn.self;
    }
