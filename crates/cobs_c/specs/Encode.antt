-- The postconditions of the calls that write frames.
use Rattle.std.specs.Prelude.{◌≡◌, ◌≤◌, ◌<◌, ◌+◌, ℕ, List, length, take, drop}
use Rattle.cobs.specs.Length.{encoded_len, max_overhead}
use Rattle.cobs.specs.Overwritten.{message_in}
use Rattle.cobs_c.specs.Frames.{IsFrameOnWire, IsFrameOnWireFor, IsTerminatedFrame}
use Rattle.cobs_c.specs.declared.answer.Answer.{Answer}
use Rattle.cobs_c.specs.declared.answer.TheConstants.{OK, TOO_SMALL}

-- If `size` bytes fit the buffer, the call consumes `taken` bytes, and after the call the buffer begins with `size`
-- bytes for which `IsWanted` holds. Otherwise the call consumes and changes nothing.
pub record Writes (size taken : ℕ) (IsWanted : List ℕ → Type 0) (buffer : List ℕ) (result : Answer) (buffer' : List ℕ) : Type 0 where
  pub fits : size ≤ length buffer → result ≡ record { status = OK; consumed = taken; length = size }
  pub wanted : size ≤ length buffer → IsWanted (take result.length buffer')
  pub too_small : length buffer < size → result ≡ record { status = TOO_SMALL; consumed = 0; length = 0 }
  pub rest : drop result.length buffer' ≡ drop result.length buffer

-- `jcobs_encode`: the frame is written if it fits
abbrev pub Encodes : List ℕ → List ℕ → Answer → List ℕ → Type 0
Encodes message buffer result buffer' = Writes (encoded_len message) (length message) (λ f. IsFrameOnWire f message) buffer result buffer'

-- `jcobs_encode_with_sentinel`: the frame for the sentinel is written if it fits
abbrev pub EncodesFor : ℕ → List ℕ → List ℕ → Answer → List ℕ → Type 0
EncodesFor s message buffer result buffer' = Writes (encoded_len message) (length message) (λ f. IsFrameOnWireFor s f message) buffer result buffer'

-- `jcobs_encode_terminated` for the sentinel 0, and `jcobs_encode_terminated_with_sentinel`: the frame, followed by the
-- sentinel, is written if both fit
abbrev pub EncodesTerminated : ℕ → List ℕ → List ℕ → Answer → List ℕ → Type 0
EncodesTerminated s message buffer result buffer' =
    Writes (encoded_len message + 1) (length message) (λ f. IsTerminatedFrame s f message) buffer result buffer'

-- `jcobs_encode_in_place`, for a message of n bytes at index `start` of the buffer: if there is room for the frame's
-- overhead before the message, and the message is within the buffer, the buffer begins with the message's frame after
-- the call. Otherwise the call consumes and changes nothing.
pub record EncodesInPlace (start n : ℕ) (buffer : List ℕ) (result : Answer) (buffer' : List ℕ) : Type 0 where
  pub fits : max_overhead n ≤ start → start + n ≤ length buffer
      → result ≡ record { status = OK; consumed = n; length = encoded_len (message_in start n buffer) }
  pub wanted : max_overhead n ≤ start → start + n ≤ length buffer → IsFrameOnWire (take result.length buffer') (message_in start n buffer)
  pub near : start < max_overhead n → result ≡ record { status = TOO_SMALL; consumed = 0; length = 0 }
  pub outside : length buffer < start + n → result ≡ record { status = TOO_SMALL; consumed = 0; length = 0 }
  pub rest : drop result.length buffer' ≡ drop result.length buffer
