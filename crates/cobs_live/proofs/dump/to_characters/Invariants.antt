-- The bytes that the loop has gone through are changed to characters, and the others are as they were.
use Rattle.std.proofs.Common.{◌≡◌, ◌++◌, map, take, drop}
use Rattle.cobs_live.specs.Dump.{character}
use Rattle.cobs_live.proofs.dump.to_characters.Given as goal

abbrev pub invariant-loop-byte : goal.invariant-loop-byte
invariant-loop-byte l = l.bytes ≡ map character (take l.byte-index l.fn.bytes) ++ drop l.byte-index l.fn.bytes
