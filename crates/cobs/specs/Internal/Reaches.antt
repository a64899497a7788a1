-- How much of a source the core of the encoder has encoded: the bytes in the slice, their message, and the end of the
-- frame.
use Rattle.std.specs.Prelude.{◌≡◌, ◌<◌, ◌≤◌, ℕ, ◌+◌, ◌-◌, Bool, false, List, [], ◌∷◌, ◌++◌, length, take, drop, All}
use Rattle.std.specs.List.{concat}
use Rattle.cobs.specs.Grammar.{HasNoZero, IsBlock, is_full, last_of, message_of}
use Rattle.cobs.specs.Length.{open_len}
use Rattle.cobs.specs.OpenBlock.{CobsEncoderAfter, Reached, end_after}

-- whether the frame ends in a full block, so that the open block is only a placeholder; `front` is the list of the
-- blocks before the open block, and the other list has the open block's bytes
abbrev pub ends_in_full : List (List ℕ) → List ℕ → Bool
ends_in_full front [] = is_full (last_of front)
ends_in_full front (byte ∷ bytes) = false

-- The slice begins with the blocks of m before the open block, and contains the open block's bytes after the place of
-- its code. The next byte of the message belongs at `next`. This open block may have 254 bytes; the open block of a
-- public state has at most 253.
pub record Opened (slice m : List ℕ) (index next : ℕ) (full : Bool) : Type 0 where
  pub front : List (List ℕ)
  pub bytes : List ℕ
  pub each : All IsBlock front
  pub nonzero : HasNoZero bytes
  pub few : length bytes < 255
  pub message : m ≡ message_of (front ++ ((length bytes + 1) ∷ bytes) ∷ [])
  pub begins : index ≡ length (concat front)
  pub place : next ≡ index + (length bytes + 1)
  pub written : take index slice ≡ concat front
  pub bytes_there : drop (index + 1) (take next slice) ≡ bytes
  pub noted : full ≡ ends_in_full front bytes

-- the start of a call: the slice, the progress of the frame in the slice, and the source that the call encodes
pub record Start : Type 0 where
  pub slice : List ℕ
  pub reached : Reached
  pub source : List ℕ

-- the start with this slice, this progress and this source
abbrev pub start_with : List ℕ → Reached → List ℕ → Start
start_with slice reached source = record { slice = slice; reached = reached; source = source }

-- the index at which the frame ends after the whole source is encoded
abbrev pub whole_end : Start → ℕ
whole_end start = end_after start.reached start.source

-- at this start, m was the message so far
unfoldable pub HadTaken : Start → List ℕ → Type 0
HadTaken start m = CobsEncoderAfter start.slice start.reached m

-- After this start, the first `pos` bytes of the source were encoded. `slice` is the slice after that. Its open block
-- begins at `index`, and the next byte belongs at `next`. After the whole source is encoded, the frame will end at the
-- same index as computed at the start, and the bytes from that index on are unchanged. P holds for the value that says
-- whether the frame ends in a full block.
pub record Reaches (start : Start) (slice : List ℕ) (pos index next : ℕ) (P : Bool → Type 0) : Type 0 where
  pub ordered : index < next
  pub short : next ≤ index + 255
  pub within : pos ≤ length start.source
  pub end : index + open_len (next - index) (drop pos start.source) ≡ whole_end start
  pub rest : drop (whole_end start) slice ≡ drop (whole_end start) start.slice
  pub taken : (m : List ℕ) → HadTaken start m → (full : Bool) × P full × Opened slice (m ++ take pos start.source) index next full
