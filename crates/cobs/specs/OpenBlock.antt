-- The progress of a streaming encoder in a frame, and the changes that a caller of `EncoderState` makes to its output.
use Rattle.std.specs.Prelude.{◌≡◌, ℕ, ◌+◌, ◌<◌, ◌≤◌, ◌==◌, Bool, List, [], ◌∷◌, ◌++◌, length, take, slice_set, if◌then◌else◌}
use Rattle.cobs.specs.declared.enc.state.PushResult.{PushResult}
use Rattle.cobs.specs.declared.enc.state.PushResult.TheVariants.{AddSingle, ModifyFromStartAndSkip, ModifyFromStartAndPushAndSkip}
use Rattle.cobs.specs.Grammar.{IsEncodedFrame, IsOpenFrame, is_full, last_of}
use Rattle.cobs.specs.Length.{open_len}

-- the open block of a frame: the index at which it begins, and the code that it has so far
pub record OpenBlock : Type 0 where
  pub index : ℕ
  pub code : ℕ

-- the bytes pushed to the encoder so far are the message m: m has an open frame whose last block is this open block
abbrev pub EncoderAfter : OpenBlock → List ℕ → Type 0
EncoderAfter state m = (f : List ℕ) × IsOpenFrame f m state.index state.code

-- g is f, except that the byte at index i may differ
abbrev pub AgreeOutside : ℕ → List ℕ → List ℕ → Type 0
AgreeOutside i f g = (x : ℕ) × (g ≡ slice_set f i x)

-- g is the output of a caller that has made all changes for the message m. It is an open frame of m whose last block is
-- this open block, except that the byte at the block's index may differ.
abbrev pub IsOpenOutput : List ℕ → OpenBlock → List ℕ → Type 0
IsOpenOutput g state m = (f : List ℕ) × IsOpenFrame f m state.index state.code × AgreeOutside state.index f g

-- the result of `EncoderState::push` for a byte: a zero closes the open block, the 254th nonzero byte fills the block,
-- and any other byte is appended to the block
abbrev pub push_result : OpenBlock → ℕ → PushResult
push_result state byte =
    if byte == 0 then ModifyFromStartAndSkip (state.index, state.code)
    else (if state.code == 254 then ModifyFromStartAndPushAndSkip (state.index, 255, byte) else AddSingle byte)

-- the open block after a byte
abbrev pub next_open : OpenBlock → ℕ → OpenBlock
next_open state byte =
    if byte == 0 then record { index = state.index + state.code; code = 1 }
    else (if state.code == 254 then record { index = state.index + 255; code = 1 } else record { index = state.index; code = state.code + 1 })

-- the output g after the caller has made the change that a result describes; x is the new placeholder, if the change
-- appends one
abbrev pub applied : List ℕ → PushResult → ℕ → List ℕ
applied g (AddSingle b) x = g ++ b ∷ []
applied g (ModifyFromStartAndSkip (i, c)) x = slice_set g i c ++ x ∷ []
applied g (ModifyFromStartAndPushAndSkip (i, c, b)) x = slice_set g i c ++ b ∷ x ∷ []

-- the progress of a frame in a slice: the frame's open block, and whether the encoded frame so far ends in a full
-- block. If it ends in a full block, the open block is only a placeholder after the full block.
pub record Reached : Type 0 where
  pub block : OpenBlock
  pub full : Bool

-- the progress of a frame whose open block has this index and this code; `full` says whether the encoded frame so far
-- ends in a full block
abbrev pub place_at : ℕ → ℕ → Bool → Reached
place_at index code full = record { block = record { index = index; code = code }; full = full }

-- the index at which the next byte of the message belongs
abbrev pub next_of : Reached → ℕ
next_of reached = reached.block.index + reached.block.code

-- the index at which the encoded frame so far ends, that is, its length
abbrev pub end_of : Reached → ℕ
end_of reached = if reached.full then reached.block.index else next_of reached

-- the index at which the encoded frame ends after these bytes are appended to the message. The blocks before the open
-- block don't change. From the open block on, the frame is as long as the frame of a message that consists of the open
-- block's bytes and then these bytes.
abbrev pub end_after : Reached → List ℕ → ℕ
end_after reached [] = end_of reached
end_after reached (byte ∷ bytes) = reached.block.index + open_len reached.block.code (byte ∷ bytes)

-- a frame can have this progress in a buffer of n bytes: the code of its open block is from 1 to 254, and the encoded
-- frame so far ends within the buffer
pub record IsPlaceIn (n : ℕ) (reached : Reached) : Type 0 where
  pub some : 0 < reached.block.code
  pub not_full : reached.block.code < 255
  pub fits : end_of reached ≤ n

-- an encoder with this progress has room for these bytes in a buffer of n bytes: a frame can have this progress in the
-- buffer, and the frame still fits the buffer after these bytes are appended to the message
pub record HasRoomFor (n : ℕ) (reached : Reached) (bytes : List ℕ) : Type 0 where
  pub place : IsPlaceIn n reached
  pub fits : end_after reached bytes ≤ n

-- The bytes pushed to a `CobsEncoder` with this slice and this progress are the message m. The slice begins with the
-- encoded frame of m, except that the byte at the open block's index may differ. The progress says whether that frame
-- ends in a full block.
pub record CobsEncoderAfter (slice : List ℕ) (reached : Reached) (m : List ℕ) : Type 0 where
  pub frame : List ℕ
  pub encoded : IsEncodedFrame frame m
  pub follows : EncoderAfter reached.block m
  pub fits : length frame ≤ length slice
  pub begins : AgreeOutside reached.block.index frame (take (length frame) slice)
  pub noted : reached.full ≡ is_full (last_of encoded.reads.blocks)
