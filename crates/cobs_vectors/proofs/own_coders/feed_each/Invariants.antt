-- The decoder has taken the first i bytes, and no piece has ended in them (`TakesPiece` with `None`).
use Rattle.std.proofs.Common.{take, None}
use Rattle.cobs.specs.FeedPiece.{TakesPiece}
use Rattle.cobs.specs.Fields.Decoders.{phase_of}
use Rattle.cobs_vectors.proofs.own_coders.feed_each.Given as goal

abbrev pub invariant-by_byte : goal.invariant-by_byte
invariant-by_byte l = TakesPiece l.fn.buffer (phase_of l.fn.decoder) (take l.i l.bytes) None l.buffer (phase_of l.decoder)
