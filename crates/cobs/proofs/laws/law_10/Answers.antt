-- Damage stays between its sentinels: each clause is a lemma of `StreamLemmas`.
use Rattle.std.proofs.Common.{arith}
use Rattle.cobs.proofs.format.StreamLemmas.{stream_outcomes-apart, stream_outcomes-one, stream_outcomes-nothing}
use Rattle.cobs.proofs.laws.law_10.Goals as goal

pub returns : goal.returns
returns c = grind (arith, stream_outcomes-apart, stream_outcomes-one, stream_outcomes-nothing)
