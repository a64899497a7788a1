-- The bytes that the loop has gone through are XORed with the sentinel, and the others are as they were.
use Rattle.std.proofs.Common.{◌≡◌, ◌++◌, take, drop}
use Rattle.cobs.specs.Sentinel.{xor_each}
use Rattle.cobs_vectors.proofs.own_coders.change_sentinel.Given as goal

abbrev pub invariant-loop-byte : goal.invariant-loop-byte
invariant-loop-byte l = l.frame ≡ xor_each l.sentinel (take l.byte-index l.fn.frame) ++ drop l.byte-index l.fn.frame
