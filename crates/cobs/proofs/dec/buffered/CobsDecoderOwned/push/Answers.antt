-- The clauses `reads` and `only` follow from `pushes` (`push_message`, `push_only`), because the bytes have the type u8
-- and so are below 256 (`c.type_inv.bytes`).
use Rattle.std.proofs.Common.{arith}
use Rattle.std.proofs.lemmas.Grind.{common_steps}
use Rattle.cobs.proofs.streaming.PushHeadline.{push_message, push_only}
use Rattle.cobs.proofs.dec.buffered.CobsDecoderOwned.push.Goals as goal

-- `pushes` is the clause of the `push` of the decoder `inner`, for the bytes of the vector
pub returns-clause-pushes : goal.returns-clause-pushes
returns-clause-pushes c = grind (arith, common_steps)

pub returns-clause-reads : goal.returns-clause-reads
returns-clause-reads c = push_message (returns-clause-pushes c) c.type_inv.bytes

pub returns-clause-only : goal.returns-clause-only
returns-clause-only c = push_only (returns-clause-pushes c) c.type_inv.bytes
