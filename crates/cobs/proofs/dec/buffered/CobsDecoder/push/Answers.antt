-- The clauses `reads` and `only` follow from the clause `pushes` of the `push` of the decoder `inner` (`push_message`,
-- `push_only`), because the bytes have the type u8 and so are below 256 (`c.type_inv.bytes`). Without this file, the
-- prover's own search would find these proofs too, but slowly.
use Rattle.cobs.proofs.streaming.PushHeadline.{push_message, push_only}
use Rattle.cobs.proofs.dec.buffered.CobsDecoder.push.Goals as goal

pub returns-clause-reads : goal.returns-clause-reads
returns-clause-reads c = push_message c.push.ensures.pushes c.type_inv.bytes

pub returns-clause-only : goal.returns-clause-only
returns-clause-only c = push_only c.push.ensures.pushes c.type_inv.bytes
