-- The front of the room has the digits of the first i bytes: followed by the digits of the other bytes, they are the
-- digits of all bytes (`filled`).
use Rattle.std.proofs.Common.{◌≡◌, ◌*◌, ◌++◌, length, take, drop}
use Rattle.hex.specs.Hex.{encode_with, lower_digits}
use Rattle.cobs_lines.proofs.digits.compute_digits.Given as goal

abbrev pub invariant-by_byte : goal.invariant-by_byte
invariant-by_byte l = record {
  len : length l.room ≡ 2 * length l.bytes;
  filled : take (2 * l.i) l.room ++ encode_with lower_digits (drop l.i l.bytes) ≡ encode_with lower_digits l.bytes;
}
