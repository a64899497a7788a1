-- The definitions with which contracts describe the streaming decoders: the buffer and the phase of each decoder.
use Rattle.std.specs.Prelude.{ℕ, zero, suc, ◌==◌, Bool, true, false, List, if◌then◌else◌}
use Rattle.cobs.specs.declared.dec.buffered.CobsDecoder.{CobsDecoder}
use Rattle.cobs.specs.declared.dec.buffered.CobsDecoderOwned.{CobsDecoderOwned}
use Rattle.cobs.specs.declared.dec.heapless.CobsDecoderHeapless.{CobsDecoderHeapless}
use Rattle.cobs.specs.Feed.{Phase, Idle, Within, Overlong}
use Rattle.cobs.specs.declared.dec.unbuffered.UnbufferedDecoder.{UnbufferedDecoder}

-- the phase of a decoder, given three facts: whether the open block is full, how many bytes of it are missing, and how
-- many bytes of output are written. If the block is full, and no byte is missing or written, then no piece has begun.
abbrev pub phase_with : Bool → ℕ → ℕ → Phase
phase_with false left count = Within false left count
phase_with true (suc left) count = Within true (suc left) count
phase_with true zero (suc count) = Within true zero (suc count)
phase_with true zero zero = Idle

-- the phase that the numbers of an `UnbufferedDecoder` mean, whatever these numbers are
abbrev pub phase_of : UnbufferedDecoder → Phase
phase_of decoder = if decoder.too_long == 0 then phase_with (decoder.joint == 0) decoder.missing decoder.written else Overlong

-- the bytes of the slice that a `CobsDecoder` borrows
abbrev pub borrowed_buffer : CobsDecoder → List ℕ
borrowed_buffer decoder = decoder.dest.now

-- the phase of a `CobsDecoder`
abbrev pub borrowed_phase : CobsDecoder → Phase
borrowed_phase decoder = phase_of decoder.inner

-- a number that identifies the slice that a `CobsDecoder` borrows
abbrev pub borrowed_slice : CobsDecoder → ℕ
borrowed_slice decoder = decoder.dest.ghost_name

-- the bytes of the vector of a `CobsDecoderOwned`
abbrev pub owned_buffer : CobsDecoderOwned → List ℕ
owned_buffer decoder = decoder.dest.items

-- the phase of a `CobsDecoderOwned`
abbrev pub owned_phase : CobsDecoderOwned → Phase
owned_phase decoder = phase_of decoder.inner

module _ {N : ℕ} where
  -- the bytes of the vector of a `CobsDecoderHeapless`
  abbrev pub heapless_buffer : CobsDecoderHeapless N → List ℕ
  heapless_buffer decoder = decoder.dest.items

  -- the phase of a `CobsDecoderHeapless`
  abbrev pub heapless_phase : CobsDecoderHeapless N → Phase
  heapless_phase decoder = phase_of decoder.inner
