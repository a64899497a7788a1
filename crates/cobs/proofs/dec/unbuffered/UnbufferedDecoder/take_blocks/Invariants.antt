-- The first `taken` bytes, each XORed with the sentinel, are fed, and each returned `Ok(None)` (`FeedsQuietly`). `here`
-- is the loop's copy of the decoder, and its piece isn't too long (`going`).
use Rattle.std.proofs.Common.{◌≡◌, ◌≤◌, ◌-◌, length, take}
use Rattle.cobs.specs.Fields.Decoders.{phase_of}
use Rattle.cobs.specs.Internal.FeedsQuietly.{FeedsQuietly}
use Rattle.cobs.specs.Sentinel.{xor_each}
use Rattle.cobs.proofs.dec.unbuffered.UnbufferedDecoder.take_blocks.Given as goal

abbrev pub invariant-by_step : goal.invariant-by_step
invariant-by_step l = record {
  within : l.taken ≤ length l.bytes;
  going : l.here.too_long ≡ 0;
  fed : FeedsQuietly l.fn.dest (phase_of l.fn.self) (take l.taken (xor_each l.sentinel l.bytes)) l.dest (phase_of l.here);
}

-- each iteration takes at least one byte, unless it ends the loop
abbrev pub decreases-by_step : goal.decreases-by_step
decreases-by_step l = length l.bytes - l.taken
