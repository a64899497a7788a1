-- The step of a streaming decoder for one byte, in any phase: the result, the next phase and the next buffer. You can
-- write a decoder of your own with this step. No clause of `feed` cites these definitions: its clause `feeds` states
-- `Feeds`, which names the front of the piece that was fed before the byte. `law_17` states that this step meets
-- `Feeds`.
use Rattle.std.specs.Prelude.{ℕ, zero, suc, ◌+◌, ◌-◌, ◌==◌, nat_lt, nat_le, min, Bool, true, false, List, slice_set, Option, Some, None, Result, Ok, Err, if◌then◌else◌}
use Rattle.cobs.specs.Feed.{Phase, Idle, Within, Overlong}
use Rattle.cobs.specs.declared.error.DecodeError.{DecodeError}
use Rattle.cobs.specs.declared.error.DecodeError.TheVariants.{InvalidFrame, TargetBufTooSmall}

-- the phase after one more byte is written to a buffer of n bytes that has `count` bytes of output, or `Overlong` if
-- the buffer has no room for another byte; `full` and `left` describe the open block after this step
abbrev pub grows : ℕ → Bool → ℕ → ℕ → Phase
grows n full left count = if nat_lt count n then Within full left (count + 1) else Overlong

-- the phase after a byte, with a buffer of n bytes
abbrev pub next_phase : ℕ → Phase → ℕ → Phase
next_phase n Idle byte = if byte == 0 then Idle else Within (byte == 255) (byte - 1) 0
next_phase n Overlong byte = if byte == 0 then Idle else Overlong
next_phase n (Within full (suc left) count) byte = if byte == 0 then Idle else grows n full left count
next_phase n (Within true zero count) byte = if byte == 0 then Idle else Within (byte == 255) (byte - 1) count
next_phase n (Within false zero count) byte = if byte == 0 then Idle else grows n (byte == 255) (byte - 1) count

-- the buffer after a byte
abbrev pub next_buffer : List ℕ → Phase → ℕ → List ℕ
next_buffer buffer Idle byte = buffer
next_buffer buffer Overlong byte = buffer
next_buffer buffer (Within full (suc left) count) byte = if byte == 0 then buffer else slice_set buffer count byte
next_buffer buffer (Within true zero count) byte = buffer
next_buffer buffer (Within false zero count) byte = if byte == 0 then buffer else slice_set buffer count 0

-- the result for a nonzero byte, given the phase after this byte
abbrev pub error_if_overlong : Phase → Result (Option ℕ) DecodeError
error_if_overlong Idle = Ok None
error_if_overlong (Within full left count) = Ok None
error_if_overlong Overlong = Err TargetBufTooSmall

-- the result for a zero in this phase, with a buffer of n bytes
abbrev pub end_result : ℕ → Phase → Result (Option ℕ) DecodeError
end_result n Idle = Ok None
end_result n Overlong = Err TargetBufTooSmall
end_result n (Within full (suc left) count) = Err (InvalidFrame count)
end_result n (Within full zero count) = if nat_le count n then Ok (Some count) else Err TargetBufTooSmall

-- the result for a byte in this phase, with a buffer of n bytes
abbrev pub next_result : ℕ → Phase → ℕ → Result (Option ℕ) DecodeError
next_result n phase byte = if byte == 0 then end_result n phase else error_if_overlong (next_phase n phase byte)

-- how many decoded bytes of the open piece a buffer of n bytes holds in this phase
abbrev pub held : ℕ → Phase → ℕ
held n Idle = 0
held n (Within full left count) = min count n
held n Overlong = n
