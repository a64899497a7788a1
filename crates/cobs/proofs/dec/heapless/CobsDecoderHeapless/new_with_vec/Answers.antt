-- By the loop's invariant, `vec` and the zeros pushed so far are in `dest`. So there is room for each zero that is
-- pushed, and after the last one the vector is full. Without this file, the prover's own search would find the proofs
-- too, but slowly.
use Rattle.std.proofs.Common.{arith}
use Rattle.std.proofs.lemmas.Grind.{common_steps}
use Rattle.cobs.proofs.dec.heapless.CobsDecoderHeapless.new_with_vec.Goals as goal

pub push-requires : goal.push-requires
push-requires g c = grind (arith, common_steps)

pub fill-preserved : goal.fill-preserved
fill-preserved g c = grind (arith, common_steps)

pub invariant_of-result : goal.invariant_of-result
invariant_of-result g c = grind (arith, common_steps)
