-- The bytes before index `at` are fed, and each of them returned `Ok(None)` (`Pushed`). `l.fn.self` is the decoder
-- before the call, and `l.self` is the decoder at the start of the iteration.
use Rattle.std.proofs.Common.{length, ◌-◌, ◌≤◌}
use Rattle.cobs.specs.Fields.Decoders.{phase_of}
use Rattle.cobs.proofs.streaming.PushLemmas.{Pushed}
use Rattle.cobs.proofs.dec.unbuffered.UnbufferedDecoder.push.Given as goal

abbrev pub invariant-by_run : goal.invariant-by_run
invariant-by_run l = record {
  within : l.at ≤ length l.bytes;
  pushed : Pushed l.fn.dest (phase_of l.fn.self) l.dest (phase_of l.self) l.bytes l.at;
}

-- each iteration feeds at least one byte
abbrev pub decreases-by_run : goal.decreases-by_run
decreases-by_run l = length l.bytes - l.at
