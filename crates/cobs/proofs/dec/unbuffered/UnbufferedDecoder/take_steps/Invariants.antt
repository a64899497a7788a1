-- The first `taken` bytes, each XORed with the sentinel, are fed, and each returned `Ok(None)` (`FeedsQuietly`). None of
-- them is a zero. `here` is the loop's copy of the decoder, and its piece isn't too long (`going`).
use Rattle.std.proofs.Common.{◌≡◌, ◌≤◌, ◌-◌, length, take}
use Rattle.cobs.specs.Fields.Decoders.{phase_of}
use Rattle.cobs.specs.Grammar.{HasNoZero}
use Rattle.cobs.specs.Internal.FeedsQuietly.{FeedsQuietly}
use Rattle.cobs.specs.Sentinel.{xor_each}
use Rattle.cobs.proofs.dec.unbuffered.UnbufferedDecoder.take_steps.Given as goal

abbrev pub invariant-by_byte : goal.invariant-by_byte
invariant-by_byte l = record {
  within : l.taken ≤ length l.bytes;
  nonzero : HasNoZero (take l.taken (xor_each l.sentinel l.bytes));
  going : l.here.too_long ≡ 0;
  fed : FeedsQuietly l.fn.dest (phase_of l.fn.self) (take l.taken (xor_each l.sentinel l.bytes)) l.dest (phase_of l.here);
}

-- each iteration takes a byte
abbrev pub decreases-by_byte : goal.decreases-by_byte
decreases-by_byte l = length l.bytes - l.taken
