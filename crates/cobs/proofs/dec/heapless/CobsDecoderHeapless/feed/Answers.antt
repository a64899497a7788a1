-- Both clauses are those of the `feed` of the decoder `inner`, for the bytes of the vector, and the vector stays full
-- (`invariant_of-self`), because `feed` keeps the length of the slice. Without this file, the prover's own search would
-- find these proofs too, but slowly.
use Rattle.std.proofs.Common.{arith}
use Rattle.std.proofs.lemmas.Grind.{common_steps}
use Rattle.cobs.proofs.dec.heapless.CobsDecoderHeapless.feed.Goals as goal

pub returns-clause-feeds : goal.returns-clause-feeds
returns-clause-feeds g c = grind (arith, common_steps)

pub returns-clause-by_table : goal.returns-clause-by_table
returns-clause-by_table g c = grind (arith, common_steps)

pub invariant_of-self : goal.invariant_of-self
invariant_of-self g c = grind (arith, common_steps)
