-- The definitions with which contracts describe a `FrameReader` and a `Recorded`.
use Rattle.std.specs.Prelude.{ℕ, List, slice_range}
use Rattle.cobs.specs.Feed.{Phase}
use Rattle.cobs.specs.NextFrame.{ReaderState}
use Rattle.cobs.specs.declared.framed.FrameReader.{FrameReader}
use Rattle.cobs.specs.declared.framed.Recorded.{Recorded}

module _ {D : Type 0} {g : _} where
  -- the decoder of a `FrameReader`
  abbrev pub decoder_of : FrameReader D g → D
  decoder_of reader = reader.decoder

  -- the bytes that a `FrameReader` has read but not yet fed to its decoder
  abbrev pub kept_of : FrameReader D g → List ℕ
  kept_of reader = slice_range reader.chunk reader.start reader.end

  -- the state of a `FrameReader`: the buffer and the phase of its decoder, and the bytes that it has kept
  abbrev pub reader_state : (D → List ℕ) → (D → Phase) → FrameReader D g → ReaderState
  reader_state bytes phase reader =
      record { buffer = bytes reader.decoder; phase = phase reader.decoder; kept = kept_of reader }

-- the reader from which a `Recorded` reads
abbrev pub reader_of : {R : Type 0} → Recorded R → R
reader_of source = source.reader
