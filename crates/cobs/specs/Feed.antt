-- The result of a streaming decoder for a byte, and the decoder's phase after the front of a piece.
use Rattle.std.specs.Prelude.{ℕ, ◌≡◌, ◌≢◌, ◌≤◌, ◌==◌, nat_le, Bool, List, [], ◌∷◌, ◌++◌, length, take, drop, Option, Some, None, Result, Ok, Err, IfOk, IfSome, if◌then◌else◌}
use Rattle.std.specs.Result.{result_map_both}
use Rattle.cobs.specs.Grammar.{HasNoZero, is_full}
use Rattle.cobs.specs.Piece.{output, last_part, missing}
use Rattle.cobs.specs.Stream.{Outcome, outcome_of}
use Rattle.cobs.specs.Decode.{outcome_result}
use Rattle.cobs.specs.declared.error.DecodeError.{DecodeError}
use Rattle.cobs.specs.declared.error.DecodeError.TheVariants.{TargetBufTooSmall}

-- the result that a streaming decoder returns for an outcome: `outcome_result`, but with the message's length in a
-- `Some`
abbrev pub fed_result : Outcome → Result (Option ℕ) DecodeError
fed_result outcome = result_map_both Some (λ error. error) (outcome_result outcome)

-- the result for a zero after the front p of a piece, in a buffer of n bytes. If p is empty, no piece ends, and the
-- result is `Ok(None)`.
unfoldable pub result_at_end : List ℕ → ℕ → Result (Option ℕ) DecodeError
result_at_end [] n = Ok None
result_at_end (byte ∷ bytes) n = fed_result (outcome_of (byte ∷ bytes) n)

-- the result for a byte after the front p of a piece, in a buffer of n bytes
unfoldable pub result_for : List ℕ → ℕ → ℕ → Result (Option ℕ) DecodeError
result_for p byte n =
    if byte == 0 then result_at_end p n
    else (if nat_le (length (output (p ++ byte ∷ []))) n then Ok None else Err TargetBufTooSmall)

-- the front of the open piece after a byte was fed: p with this byte appended, or the empty list after a zero, because
-- a zero ends the piece
abbrev pub fed : List ℕ → ℕ → List ℕ
fed p byte = if byte == 0 then [] else p ++ byte ∷ []

-- the phase of a decoder: the facts that it keeps about the piece so far. `Idle`: no piece has begun. `Overlong`: the
-- output was too long for the buffer. `Within`: a block is open; `full` says whether its code is 255, `left` of its
-- bytes are missing, and `count` bytes of the piece's output are written.
pub data Phase : Type 0 where
  Idle : Phase
  Within : (full : Bool) (left count : ℕ) → Phase
  Overlong : Phase

-- the phase after the front p of a piece, in a buffer of n bytes
unfoldable pub phase_after : List ℕ → ℕ → Phase
phase_after [] n = Idle
phase_after (byte ∷ bytes) n =
    let p = byte ∷ bytes in
    if nat_le (length (output p)) n then Within (is_full (last_part p)) (missing (last_part p)) (length (output p)) else Overlong

-- this is the phase of a decoder after the front p of a piece was fed to it; the decoder's buffer has n bytes
pub record PhaseAfter (n : ℕ) (phase : Phase) (p : List ℕ) : Type 0 where
  pub piece : HasNoZero p
  pub phase_is : phase ≡ phase_after p n

-- a decoder with this buffer and this phase has been fed the front p of a piece: `PhaseAfter` holds, and the buffer
-- begins with the output of p. If the output is longer than the buffer, the buffer is filled with the first bytes of
-- the output.
pub record DecoderAfter (buffer : List ℕ) (phase : Phase) (p : List ℕ) : Type 0 where
  pub phased : PhaseAfter (length buffer) phase p
  pub begins : take (length (output p)) buffer ≡ take (length buffer) (output p)

-- `feed` of this byte has this result, and changes the decoder's buffer and phase to `buffer'` and `phase'`
pub record Feeds (buffer : List ℕ) (phase : Phase) (byte : ℕ) (result : Result (Option ℕ) DecodeError) (buffer' : List ℕ) (phase' : Phase) : Type 0 where
  pub returned : (p : List ℕ) → PhaseAfter (length buffer) phase p → result ≡ result_for p byte (length buffer)
  pub phased : (p : List ℕ) → PhaseAfter (length buffer) phase p → PhaseAfter (length buffer) phase' (fed p byte)
  pub after : (p : List ℕ) → DecoderAfter buffer phase p → DecoderAfter buffer' phase' (fed p byte)
  -- a nonzero byte doesn't change the bytes of the buffer after the output of p and this byte
  pub untouched : (p : List ℕ) → PhaseAfter (length buffer) phase p → byte ≢ 0
      → drop (length (output (p ++ byte ∷ []))) buffer' ≡ drop (length (output (p ++ byte ∷ []))) buffer
  -- the remaining fields hold in every phase
  pub zero_idle : byte ≡ 0 → phase' ≡ Idle
  pub zero_unchanged : byte ≡ 0 → buffer' ≡ buffer
  pub bound : IfOk result (λ found. IfSome found (λ n. n ≤ length buffer))
  pub len : length buffer' ≡ length buffer
