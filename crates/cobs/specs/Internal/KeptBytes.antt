-- The results of a `FrameReader` for the bytes that it has read but not yet fed to its decoder.
use Rattle.std.specs.Prelude.{ℕ, ◌≡◌, ◌≤◌, Bool, List, [], ◌∷◌, ◌++◌, length, take}
use Rattle.cobs.specs.Stream.{Outcome, Message, Broken, TooLong, stream_outcomes, unended, is_nonempty}
use Rattle.cobs.specs.Feed.{Phase, DecoderAfter}
use Rattle.cobs.specs.NextFrame.{HasDecoded, ReaderState}
use Rattle.cobs.specs.declared.framed.Next.{Next}
use Rattle.cobs.specs.declared.framed.Next.TheVariants as nexts

-- a decoder with this buffer and this phase has been fed the front p of a piece, and the flag `unfinished` says whether
-- p is nonempty
pub record DecoderHasTaken (buffer : List ℕ) (phase : Phase) (unfinished : Bool) (p : List ℕ) : Type 0 where
  pub after : DecoderAfter buffer phase p
  pub flag : unfinished ≡ is_nonempty p

-- this result of `next_frame` means this outcome; `buffer` is the decoder's buffer after the call
abbrev pub IsOutcome : Next → List ℕ → Outcome → Type 0
IsOutcome (nexts.Message n) buffer outcome = (outcome ≡ Message (take n buffer)) × (n ≤ length buffer)
IsOutcome (nexts.Broken count) buffer outcome = (outcome ≡ Broken count) × (count ≤ length buffer)
IsOutcome nexts.TooLong buffer outcome = outcome ≡ TooLong
IsOutcome (nexts.End unfinished) buffer outcome = ⊥

-- if these bytes follow the front p of a piece, the first piece that ends in them has this outcome, and `rest` consists
-- of the bytes after the zero that ends this piece
pub record EndsFirstIn (p bytes : List ℕ) (n : ℕ) (outcome : Outcome) (rest : List ℕ) : Type 0 where
  pub front : List ℕ
  pub cut : bytes ≡ front ++ 0 ∷ rest
  pub none_before : stream_outcomes (p ++ front) n ≡ []
  pub here : stream_outcomes (p ++ (front ++ 0 ∷ [])) n ≡ outcome ∷ []

-- this result of `next_frame` reports the first piece that ends in these bytes, which follow the front p of a piece;
-- `buffer` is the decoder's buffer after the call
pub record ReportsFirst (next : Next) (p bytes buffer rest : List ℕ) : Type 0 where
  pub outcome : Outcome
  pub is : IsOutcome next buffer outcome
  pub first : EndsFirstIn p bytes (length buffer) outcome rest
  pub decoded : HasDecoded outcome buffer (unended (p ++ first.front))

-- the reader with other kept bytes: `kept`, the bytes that it has read but not yet fed to its decoder, is replaced by
-- these bytes
abbrev pub with_kept : List ℕ → ReaderState → ReaderState
with_kept kept reader = record reader { kept = kept }
