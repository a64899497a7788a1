-- The first i bytes are sentinels, that is, XORed with the sentinel they are zeros: the XORed bytes have i more leading
-- zeros than their rest from index i on.
use Rattle.std.proofs.Common.{◌≡◌, ◌+◌, drop}
use Rattle.cobs.specs.Decode.{leading_zeros}
use Rattle.cobs.specs.Sentinel.{xor_each}
use Rattle.cobs.proofs.dec.unbuffered.UnbufferedDecoder.zeros_outside.Given as goal

abbrev pub invariant-by_byte : goal.invariant-by_byte
invariant-by_byte l = leading_zeros (xor_each l.sentinel l.bytes) ≡ l.i + leading_zeros (drop l.i (xor_each l.sentinel l.bytes))
