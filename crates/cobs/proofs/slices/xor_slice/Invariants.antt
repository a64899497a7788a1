-- The first i bytes are copied, XORed with the sentinel, and the others are as they were before the call.
use Rattle.std.proofs.Common.{◌≡◌, ◌++◌, take, drop}
use Rattle.cobs.specs.Bytes.{xor_each}
use Rattle.cobs.proofs.slices.xor_slice.Given as goal

abbrev pub invariant-by_byte : goal.invariant-by_byte
invariant-by_byte l = l.dest ≡ xor_each l.sentinel (take l.i l.source) ++ drop l.i l.fn.dest
