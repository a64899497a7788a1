-- No byte before index `at` is the sentinel.
use Rattle.std.proofs.Common.{take}
use Rattle.cobs.specs.Sentinel.{IsFreeOf}
use Rattle.cobs_vectors.proofs.receivers.before_sentinel.Given as goal

abbrev pub invariant-by_byte : goal.invariant-by_byte
invariant-by_byte l = IsFreeOf l.sentinel (take l.at l.received)
