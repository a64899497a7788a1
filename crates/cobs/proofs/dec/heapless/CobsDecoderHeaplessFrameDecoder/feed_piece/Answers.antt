-- The clause is that of the `feed_piece` of the decoder `inner`, for the bytes of the vector. The vector stays full
-- (`invariant_of-self`), because `feed_piece` keeps the length of the slice. Without this file, the prover's own search
-- would find these proofs too, but slowly.
use Rattle.std.proofs.Common.{arith}
use Rattle.std.proofs.lemmas.Grind.{common_steps}
use Rattle.cobs.proofs.dec.heapless.CobsDecoderHeaplessFrameDecoder.feed_piece.Goals as goal

pub invariant_of-self : goal.invariant_of-self
invariant_of-self g c = grind (arith, common_steps)

pub returns-clause-takes : goal.returns-clause-takes
returns-clause-takes g c = grind (arith, common_steps)
