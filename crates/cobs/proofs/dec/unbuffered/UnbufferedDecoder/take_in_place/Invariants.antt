-- The bytes from index `read` to index `at` are fed (`fed`), and their output ends before the next byte that is read
-- (`behind`, `joint`): a step needs this so that it doesn't overwrite bytes that aren't read yet.
use Rattle.std.proofs.Common.{◌≡◌, ◌≢◌, ◌<◌, ◌≤◌, ◌-◌, take, drop}
use Rattle.cobs.specs.Fields.Decoders.{phase_of}
use Rattle.cobs.specs.Internal.FeedsQuietly.{FeedsQuietly}
use Rattle.cobs.proofs.dec.unbuffered.UnbufferedDecoder.take_in_place.Given as goal

abbrev pub invariant-by_step : goal.invariant-by_step
invariant-by_step l = record {
  fed : FeedsQuietly l.fn.buffer (phase_of l.fn.self) (take (l.at - l.read) (drop l.read l.fn.buffer)) l.buffer (phase_of l.self);
  going : l.self.too_long ≡ 0;
  started : l.read ≤ l.at;
  within : l.at ≤ l.end;
  behind : l.self.written ≤ l.at;
  -- if the next code adds a zero, there is room for the zero too
  joint : l.self.joint ≢ 0 → l.self.written < l.at;
}

-- each step takes at least one byte
abbrev pub decreases-by_step : goal.decreases-by_step
decreases-by_step l = l.end - l.at
