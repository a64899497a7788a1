-- Each iteration writes the two digits of the next byte, which the table `DIGITS` has (`encode_step`). After the last
-- byte, the room has the digits of all bytes (`encode_done`).
use Rattle.std.proofs.Common.{◌∙◌, arith, length-set, refl}
use Rattle.hex.specs.Hex.{lower_digits}
use Rattle.hex.proofs.Pairs.{encode_done, encode_step}
use Rattle.cobs_lines.proofs.digits.look_up_digits.Goals as goal

pub by_byte-preserved : goal.by_byte-preserved
by_byte-preserved c = record {
  -- each of the two writes keeps the length of the room
  len = length-set _ _ _ ∙ length-set _ _ _ ∙ c.by_byte.invariant.len;
  -- with the two digits, the room has the digits of the first i + 1 bytes
  filled = encode_step lower_digits c.args.bytes.now c.by_byte.room c.by_byte.i _ _ (omega arith) (omega arith) refl refl c.by_byte.invariant.filled;
}

pub returns : goal.returns
returns c = record { digits = encode_done lower_digits c.args.bytes.now c.by_byte.room c.by_byte.i (omega arith) c.by_byte.invariant.len c.by_byte.invariant.filled }
