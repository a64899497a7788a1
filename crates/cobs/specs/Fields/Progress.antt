-- The progress of an `UnbufferedEncoder`.
use Rattle.std.specs.Prelude.{◌+◌, ◌==◌, not}
use Rattle.cobs.specs.OpenBlock.{Reached}
use Rattle.cobs.specs.declared.enc.unbuffered.UnbufferedEncoder.{UnbufferedEncoder}

-- the progress that the numbers of an `UnbufferedEncoder` mean, whatever these numbers are. The code of the open block
-- is one more than the number of its bytes.
abbrev pub reached_by : UnbufferedEncoder → Reached
reached_by encoder = record { block = record { index = encoder.index; code = encoder.taken + 1 }; full = not (encoder.full == 0) }
