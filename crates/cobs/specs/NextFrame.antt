-- The reads that a call of `next_frame` makes from a source of bytes, and the result of the call for these reads.
use Rattle.std.specs.Prelude.{ℕ, ◌≡◌, ◌≢◌, ◌<◌, ◌≤◌, ◌↔◌, List, [], ◌∷◌, ◌++◌, length, take, All, Option, Some, None, Result, Ok, Err}
use Rattle.std.specs.List.{flat_map}
use Rattle.std.specs.Io.KnownBytes.{Consumes}
use Rattle.cobs.specs.Stream.{Outcome, Message, Broken, TooLong, stream_outcomes, unended, is_nonempty}
use Rattle.cobs.specs.Feed.{Phase, DecoderAfter}
use Rattle.cobs.specs.Piece.{output}
use Rattle.cobs.specs.declared.framed.Next.{Next}
use Rattle.cobs.specs.declared.framed.Next.TheVariants as nexts
use Rattle.cobs.specs.declared.framed.ReadFault.{ReadFault}
use Rattle.cobs.specs.declared.framed.ReadFault.TheVariants as faults

-- READS

-- the result of a read: the bytes that the read returned, or `None` if it failed
abbrev pub Read : Type 0
Read = Option (List ℕ)

-- the bytes that a read returned; no bytes if it failed
abbrev pub bytes_given : Read → List ℕ
bytes_given None = []
bytes_given (Some bytes) = bytes

-- the read didn't fail, and it returned at least one byte
abbrev pub GaveBytes : Read → Type 0
GaveBytes read = bytes_given read ≢ []

-- the bytes that the reads returned, in order
abbrev pub all_given : List Read → List ℕ
all_given reads = flat_map bytes_given reads

-- the list of the reads isn't empty, and this read is the last one
abbrev pub EndsIn : List Read → Read → Type 0
EndsIn reads last = (earlier : List Read) × (reads ≡ earlier ++ last ∷ [])

-- these reads, in order, change a source from the state `from` to the state `to`; each read is a step of the source
abbrev pub Runs : {S : Type 0} → (S → Read → S → Type 0) → S → List Read → S → Type 0
Runs step from [] to = from ≡ to
Runs {S} step from (read ∷ reads) to = (next : S) × step from read next × Runs step next reads to

-- the result of a read from a reader, which implements `std::io::Read`. The reader's remaining bytes, if they are
-- known, are `before` before the read and `after` after the read. If the read doesn't fail, it returns at most 64
-- bytes, which are the first bytes of `before`.
abbrev pub IsReadOf : Option (List ℕ) → Read → Option (List ℕ) → Type 0
IsReadOf before None after = Unit {0}
IsReadOf before (Some bytes) after = (length bytes ≤ 64) × Consumes before after bytes

-- WHEN ANOTHER READ IS MADE

-- after these reads the call makes another read, because three conditions hold: there are fewer than 65,536 reads, each
-- of them returned bytes, and no piece ends in the stream that consists of the front and the bytes of the reads
pub record CallsForMore (front : List ℕ) (n : ℕ) (reads : List Read) : Type 0 where
  pub few : length reads < 65536
  pub gave : All GaveBytes reads
  pub none_ended : stream_outcomes (front ++ all_given reads) n ≡ []

-- each of these reads was necessary: `CallsForMore` holds for the reads before it
abbrev pub EachCalledFor : List ℕ → ℕ → List Read → Type 0
EachCalledFor front n reads =
    (earlier later : List Read) (read : Read) → reads ≡ earlier ++ read ∷ later → CallsForMore front n earlier

-- THE MEANING OF A RESULT

-- the first piece that ends in the stream t has this outcome in a buffer of n bytes, and `rest` consists of the bytes
-- after the zero that ends this piece
pub record EndsFirst (t : List ℕ) (n : ℕ) (outcome : Outcome) (rest : List ℕ) : Type 0 where
  pub front : List ℕ
  pub cut : t ≡ front ++ 0 ∷ rest
  pub none_before : stream_outcomes front n ≡ []
  pub outcomes : stream_outcomes t n ≡ outcome ∷ stream_outcomes rest n

-- the state of a `FrameReader`, as contracts describe it: the buffer and the phase of its decoder, and the bytes that
-- the reader has read but not yet fed to the decoder
pub record ReaderState : Type 0 where
  pub buffer : List ℕ
  pub phase : Phase
  pub kept : List ℕ

-- the front p of a piece has been fed to the decoder of the reader
abbrev pub ReaderAfter : ReaderState → List ℕ → Type 0
ReaderAfter reader p = DecoderAfter reader.buffer reader.phase p

-- what the buffer contains of the output of this piece. If the piece is broken, the buffer begins with the output. If
-- the output is too long, the buffer is filled with the first bytes of the output. If the piece is a message, nothing
-- is stated here, because the bytes of the message are part of the outcome.
abbrev pub HasDecoded : Outcome → List ℕ → List ℕ → Type 0
HasDecoded (Message message) buffer piece = Unit {0}
HasDecoded (Broken count) buffer piece = (count ≤ length buffer) × (take count buffer ≡ output piece)
HasDecoded TooLong buffer piece = buffer ≡ take (length buffer) (output piece)

-- the first piece of the stream t that a zero ends has this outcome, and the reader is at the end of this piece: its
-- decoder is idle, and it keeps the bytes after the zero
pub record AtPieceEnd (t : List ℕ) (outcome : Outcome) (reader : ReaderState) : Type 0 where
  pub first : EndsFirst t (length reader.buffer) outcome reader.kept
  pub decoded : HasDecoded outcome reader.buffer (unended first.front)
  pub idle : ReaderAfter reader []

-- no piece has ended in the stream t, and the reader is at the end of t: all of t has been fed to the decoder, and the
-- reader keeps no byte
pub record AtStreamEnd (t : List ℕ) (reader : ReaderState) : Type 0 where
  pub none_ended : stream_outcomes t (length reader.buffer) ≡ []
  pub after : ReaderAfter reader (unended t)
  pub nothing_kept : reader.kept ≡ []

-- the facts that a result states about the reads of the call, the stream t, and the state of the reader after the call
abbrev pub Reports : Result Next ReadFault → List Read → List ℕ → ReaderState → Type 0
Reports (Ok (nexts.Message n)) reads t reader =
    AtPieceEnd t (Message (take n reader.buffer)) reader × (n ≤ length reader.buffer)
Reports (Ok (nexts.Broken count)) reads t reader = AtPieceEnd t (Broken count) reader
Reports (Ok nexts.TooLong) reads t reader = AtPieceEnd t TooLong reader
Reports (Ok (nexts.End unfinished)) reads t reader =
    AtStreamEnd t reader × EndsIn reads (Some []) × (unfinished ≡ is_nonempty (unended t))
Reports (Err faults.Io) reads t reader = AtStreamEnd t reader × EndsIn reads None
Reports (Err faults.TooManyReads) reads t reader =
    AtStreamEnd t reader × (length reads ≡ 65536) × All GaveBytes reads

-- if the result reports a number of bytes, the number is at most the length of the buffer
abbrev pub IsNextWithin : ℕ → Next → Type 0
IsNextWithin len (nexts.Message n) = n ≤ len
IsNextWithin len (nexts.Broken count) = count ≤ len
IsNextWithin len nexts.TooLong = Unit {0}
IsNextWithin len (nexts.End unfinished) = Unit {0}

-- a call of `next_frame` has this result, and changes the source to `source'` and the reader to `reader'`
pub record ReadsNext {S : Type 0} (step : S → Read → S → Type 0) (source source' : S)
    (reader : ReaderState) (result : Result Next ReadFault) (reader' : ReaderState) : Type 0 where
  -- the reads of this call
  pub reads : List Read
  pub runs : Runs step source reads source'
  pub failed : (result ≡ Err faults.Io) ↔ EndsIn reads None
  -- if the front p of a piece had been fed to the decoder, the stream consists of p, the kept bytes, and the bytes that
  -- the reads returned. No read is made if a piece ends in the kept bytes (`CallsForMore`).
  pub called_for : (p : List ℕ) → ReaderAfter reader p → EachCalledFor (p ++ reader.kept) (length reader.buffer) reads
  pub result_says : (p : List ℕ) → ReaderAfter reader p → Reports result reads (p ++ reader.kept ++ all_given reads) reader'
