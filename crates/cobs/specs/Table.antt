-- The table of `DecoderState`: for each state and byte, the result and the next state. The file also defines the
-- meaning of a state for a piece, and states that the streaming decoders follow the same table.
use Rattle.std.specs.Prelude.{ℕ, zero, suc, ◌≡◌, ◌≢◌, ◌<◌, ◌+◌, ◌-◌, ◌⊎◌, ◌==◌, true, false, List, [], ◌∷◌, length, All, Option, Some, None, Result, Ok, Err, if◌then◌else◌}
use Rattle.cobs.specs.Grammar.{HasNoZero, is_full}
use Rattle.cobs.specs.Piece.{last_part, missing, output}
use Rattle.cobs.specs.Feed.{Phase}
use Rattle.cobs.specs.Feed as phases
use Rattle.cobs.specs.declared.dec.state.DecoderState.{DecoderState}
use Rattle.cobs.specs.declared.dec.state.DecoderState.TheVariants.{Idle, Grab, GrabChain}
use Rattle.cobs.specs.declared.dec.state.DecodeResult.{DecodeResult}
use Rattle.cobs.specs.declared.dec.state.DecodeResult.TheVariants.{NoData, DataStart, DataComplete, DataContinue}
use Rattle.cobs.specs.declared.error.DecodeError.{DecodeError}
use Rattle.cobs.specs.declared.error.DecodeError.TheVariants.{InvalidFrame, TargetBufTooSmall}

-- the state after the code of a block was fed, before the other bytes of the block
abbrev pub opened_by : ℕ → DecoderState
opened_by code = if code == 255 then GrabChain 254 else Grab (code - 1)

-- the result of `DecoderState::feed` for a byte in this state
abbrev pub table_result : DecoderState → ℕ → Result DecodeResult DecodeError
table_result Idle byte = if byte == 0 then Ok NoData else Ok DataStart
table_result (Grab (suc left)) byte = if byte == 0 then Err (InvalidFrame 0) else Ok (DataContinue byte)
table_result (GrabChain (suc left)) byte = if byte == 0 then Err (InvalidFrame 0) else Ok (DataContinue byte)
table_result (Grab zero) byte = if byte == 0 then Ok DataComplete else Ok (DataContinue 0)
table_result (GrabChain zero) byte = if byte == 0 then Ok DataComplete else Ok NoData

-- the state after `DecoderState::feed` of a byte in this state
abbrev pub table_state : DecoderState → ℕ → DecoderState
table_state Idle byte = if byte == 0 then Idle else opened_by byte
table_state (Grab (suc left)) byte = if byte == 0 then Idle else Grab left
table_state (GrabChain (suc left)) byte = if byte == 0 then Idle else GrabChain left
table_state (Grab zero) byte = if byte == 0 then Idle else opened_by byte
table_state (GrabChain zero) byte = if byte == 0 then Idle else opened_by byte

-- the bytes of the message that a result contains, a list of at most one byte
abbrev pub data_of : Result DecodeResult DecodeError → List ℕ
data_of (Ok NoData) = []
data_of (Ok DataStart) = []
data_of (Ok DataComplete) = []
data_of (Ok (DataContinue byte)) = byte ∷ []
data_of (Err error) = []

-- the state after the front p of a piece: how many bytes of the last part of p are missing, and whether the code of
-- this part is 255; `Idle` if p is empty
abbrev pub state_after : List ℕ → DecoderState
state_after [] = Idle
state_after (byte ∷ bytes) =
    let part = last_part (byte ∷ bytes) in
    if is_full part then GrabChain (missing part) else Grab (missing part)

-- this is the state after the front p of a piece was fed, and `so_far` lists the bytes of the message that were in the
-- results so far: the output of p
pub record StateAfter (state : DecoderState) (p so_far : List ℕ) : Type 0 where
  pub piece : HasNoZero p
  pub bytes : All (λ byte. byte < 256) p
  pub state_is : state ≡ state_after p
  pub so_far_is : so_far ≡ output p

-- the state of the table that corresponds to the phase of a streaming decoder, or `None` if the output was too long
abbrev pub state_in : Phase → Option DecoderState
state_in phases.Idle = Some Idle
state_in (phases.Within false left count) = Some (Grab left)
state_in (phases.Within true left count) = Some (GrabChain left)
state_in phases.Overlong = None

-- how many bytes of the piece's output a decoder with this phase has written. For `Overlong`, the value 0 has no
-- meaning: `FeedsByTable` says nothing about this phase.
abbrev pub written_in : Phase → ℕ
written_in phases.Idle = 0
written_in (phases.Within full left count) = count
written_in phases.Overlong = 0

-- the result of a streaming decoder that has written n bytes, given the result of the table, if the buffer has room for
-- these n bytes and the byte of the message that the table's result may contain
abbrev pub counted : ℕ → Result DecodeResult DecodeError → Result (Option ℕ) DecodeError
counted n (Ok NoData) = Ok None
counted n (Ok DataStart) = Ok None
counted n (Ok (DataContinue byte)) = Ok None
counted n (Ok DataComplete) = Ok (Some n)
counted n (Err error) = Err (InvalidFrame n)

-- `feed` of this byte to a decoder with a buffer of n bytes has this result, and changes the decoder's phase to
-- `phase'`, as the table says. Nothing is stated for the phase `Overlong`, because no state of the table corresponds to
-- it.
pub record FeedsByTable (n : ℕ) (phase : Phase) (byte : ℕ) (result : Result (Option ℕ) DecodeError) (phase' : Phase) : Type 0 where
  -- the state changes as the table says, unless the output is too long after this byte
  pub next : (state : DecoderState) → state_in phase ≡ Some state → phase' ≢ phases.Overlong → state_in phase' ≡ Some (table_state state byte)
  -- the result is that of the table, unless the buffer has no room for the written bytes and the byte of the message
  -- that the table's result may contain
  pub returned : (state : DecoderState) → state_in phase ≡ Some state
      → (result ≡ counted (written_in phase) (table_result state byte))
      ⊎ ((result ≡ Err TargetBufTooSmall) × (n < written_in phase + length (data_of (table_result state byte))))
