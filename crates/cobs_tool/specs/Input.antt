-- The bytes that a call has read from its input.
use Rattle.std.specs.Prelude.{ℕ, ◌≡◌, ◌+◌, ◌<◌, ◌≤◌, ◌↔◌, List, length, Option, Result, Err, OnOk}
use Rattle.std.specs.Io.KnownBytes.{Consumes, IsAtEnd}
use Rattle.cobs_tool.specs.declared.fault.ToolFault.{ToolFault}
use Rattle.cobs_tool.specs.declared.fault.ToolFault.TheVariants.{InputTooLong, WriteFailed}
use Rattle.cobs_tool.specs.declared.input.TheConstants.{READ_LEN}

-- the greatest length of the input, in bytes
abbrev pub max_input : ℕ
max_input = 1048576

-- a call that returned `result` has read some bytes from a reader; the reader's unread bytes, if they are known, were
-- `old` before the call and are `new` after it
pub record HasRead {A : Type 0} (old new : Option (List ℕ)) (result : Result A ToolFault) : Type 0 where
  pub bytes : List ℕ
  pub consumed : Consumes old new bytes
  -- the call has read more bytes than the limit if and only if the result says that the input is too long
  pub too_long : (result ≡ Err InputTooLong) ↔ (max_input < length bytes)
  pub stopped : length bytes ≤ max_input + READ_LEN
  -- `bytes` is the whole input if the call succeeds or has begun to write
  pub whole : OnOk result (IsAtEnd new)
  pub whole_at_write : result ≡ Err WriteFailed → IsAtEnd new
