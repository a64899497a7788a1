-- The clauses `reads` and `only` follow from `pushes` (`push_message`, `push_only`), because the bytes have the type u8
-- and so are below 256 (`c.type_inv.bytes`).
use Rattle.std.proofs.Common.{arith}
use Rattle.std.proofs.lemmas.Grind.{common_steps}
use Rattle.cobs.proofs.streaming.PushHeadline.{push_message, push_only}
use Rattle.cobs.proofs.dec.heapless.CobsDecoderHeapless.push.Goals as goal

-- `pushes` is the clause of the `push` of the decoder `inner`, for the bytes of the vector
pub returns-clause-pushes : goal.returns-clause-pushes
returns-clause-pushes g c = grind (arith, common_steps)

pub returns-clause-reads : goal.returns-clause-reads
returns-clause-reads g c = push_message (returns-clause-pushes g c) c.type_inv.bytes

pub returns-clause-only : goal.returns-clause-only
returns-clause-only g c = push_only (returns-clause-pushes g c) c.type_inv.bytes

-- The vector stays full, because the `push` of `inner` keeps the length of the slice. Without this answer, the prover's
-- own search would find the proof too, but slowly.
pub invariant_of-self : goal.invariant_of-self
invariant_of-self g c = grind (arith, common_steps)
