-- A block of the piece ends before index `at`.
use Rattle.std.proofs.Common.{◌≡◌, ◌≤◌, ◌-◌, length, take}
use Rattle.cobs.specs.Piece.{last_part, missing}
use Rattle.cobs.specs.Sentinel.{xor_each}
use Rattle.cobs.proofs.dec.run.kept_len.Given as goal

abbrev pub invariant-by_block : goal.invariant-by_block
invariant-by_block l = record {
  within : l.at ≤ length l.bytes;
  ends : missing (last_part (take l.at (xor_each l.sentinel l.bytes))) ≡ 0;
}

-- each iteration passes at least one byte
abbrev pub decreases-by_block : goal.decreases-by_block
decreases-by_block l = length l.bytes - l.at
