-- The definition `after_bits` is unfolded: before the loop no step is made, and each iteration makes one more.
use Rattle.std.proofs.Common.{rules, add-one}
use Rattle.cobs_live.specs.Crc.{after_bits}
use Rattle.cobs_live.proofs.crc.word_of.Goals as goal

-- before the loop, no step is made
pub by_bit-init : goal.by_bit-init
unfolding after_bits
by_bit-init c = search rules

-- each iteration makes one step more
pub by_bit-preserved : goal.by_bit-preserved
unfolding after_bits
by_bit-preserved c = rw add-one (search rules)
