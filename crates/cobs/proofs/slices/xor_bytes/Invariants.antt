-- The bytes before the index are XORed with the sentinel, and the others are as they were before the call.
use Rattle.std.proofs.Common.{◌≡◌, ◌++◌, take, drop}
use Rattle.cobs.specs.Bytes.{xor_each}
use Rattle.cobs.proofs.slices.xor_bytes.Given as goal

abbrev pub invariant-loop-byte : goal.invariant-loop-byte
invariant-loop-byte l = l.bytes ≡ xor_each l.sentinel (take l.byte-index l.fn.bytes) ++ drop l.byte-index l.fn.bytes
