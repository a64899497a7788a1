-- No frame contains its sentinel: each clause is a lemma of `SentinelLemmas` or, for the sentinel 0, the lemma
-- `xor_each-zero`.
use Rattle.std.proofs.Common.{arith}
use Rattle.cobs.proofs.format.SentinelLemmas.{coded_nonzero, no_sentinel_for, xor_each-twice}
use Rattle.cobs.proofs.laws.law_6.Goals as goal
use Rattle.cobs.proofs.bytes.XoredLemmas.{xor_each-zero}

pub returns : goal.returns
returns c = grind (arith, no_sentinel_for, xor_each-twice, coded_nonzero, xor_each-zero)
