-- Both clauses are those of the `feed` of the decoder `inner`, for the bytes of the vector. Without this
-- file, the prover's own search would find these proofs too, but slowly.
use Rattle.std.proofs.Common.{arith}
use Rattle.std.proofs.lemmas.Grind.{common_steps}
use Rattle.cobs.proofs.dec.buffered.CobsDecoderOwned.feed.Goals as goal

pub returns-clause-feeds : goal.returns-clause-feeds
returns-clause-feeds c = grind (arith, common_steps)

pub returns-clause-by_table : goal.returns-clause-by_table
returns-clause-by_table c = grind (arith, common_steps)
