-- A decoder is idle if and only if no piece has begun, by `DecoderAfter-idle`.
use Rattle.std.proofs.Common.{arith}
use Rattle.cobs.specs.Feed.{phase_after}
use Rattle.cobs.proofs.streaming.FeedLemmas.{DecoderAfter-idle}
use Rattle.cobs.proofs.laws.law_14.Goals as goal

pub returns : goal.returns
unfolding phase_after
returns c = grind (arith, DecoderAfter-idle)
