-- The register is the one with which the loop began, after a step for each iteration so far (`after_bits`).
use Rattle.std.proofs.Common.{◌≡◌}
use Rattle.cobs_live.specs.Crc.{after_bits}
use Rattle.cobs_live.proofs.crc.word_of.Given as goal

abbrev pub invariant-by_bit : goal.invariant-by_bit
invariant-by_bit l = l.register ≡ after_bits l.poly l._bit l.initial.register
