-- This file is the whole proof of the function. The prover proves an `ensures*`, such as `writes_back` of the trait
-- `WriteBuffer`, by itself only if the body lends a field, or passes on what a call lends. This body lends the bytes to
-- which a field refers. When the loan ends, the decoder has the bytes that the caller wrote (`lends` of
-- `BorrowedSlice`, which also explains 𝓤, 𝓛, 𝓜 and 𝓡).
use Rattle.cobs.specs.contracts.dec.buffered.CobsDecoderWriteBuffer.dest_mut as f
use Rattle.cobs.proofs.streaming.BorrowedSlice.{lends}
use Rattle.cobs.proofs.dec.buffered.CobsDecoderWriteBuffer.dest_mut.Statement.{statement}
use Rattle.cobs.proofs.dec.buffered.CobsDecoderWriteBuffer.dest_mut.Code as code

pub dest_mut_spec : {M : Type 1} → statement M
dest_mut_spec 𝓤 𝓛 𝓜 𝓡 wired = lends 𝓤 𝓛 𝓜 𝓡 f.Key.name (code.unfolded 𝓤 𝓛.H 𝓜 𝓡 wired)
