-- The digits of the first `at` bytes have been appended to the output (`written`), and the array `digits` has room for
-- 512 digits. The loop ends, because each iteration writes the digits of at least one byte.
use Rattle.std.proofs.Common.{◌≡◌, ◌≤◌, ◌-◌, length, take}
use Rattle.std.specs.Io.KnownBytes.{Appends}
use Rattle.hex.specs.Hex.{encode_lower}
use Rattle.cobs_lines.proofs.digits.write_digits.Given as goal

abbrev pub invariant-by_chunk : goal.invariant-by_chunk
invariant-by_chunk g l = record {
  within : l.at ≤ length l.bytes;
  room : length l.digits ≡ 512;
  written : Appends (g.W.Write.contents l.fn.output) (g.W.Write.contents l.output) (encode_lower (take l.at l.bytes));
}

abbrev pub decreases-by_chunk : goal.decreases-by_chunk
decreases-by_chunk g l = length l.bytes - l.at
