-- `feed_piece_with_sentinel` feeds the bytes, for the sentinel 0.
use Rattle.std.proofs.Common.{arith}
use Rattle.cobs.proofs.bytes.XoredLemmas.{xor_each-zero}
use Rattle.cobs.proofs.dec.unbuffered.UnbufferedDecoder.feed_piece.Goals as goal

pub returns : goal.returns
returns c = grind (arith, xor_each-zero)
