-- The texts that the program prints.
use Rattle.std.specs.Prelude.{ℕ, List, [], ◌∷◌, ◌++◌, map, codes}
use Rattle.std.specs.List.{join_with_byte}
use Rattle.hex.specs.Hex.{encode_lower}
use Rattle.cobs_tool.specs.declared.fault.ToolFault.{ToolFault}
use Rattle.cobs_tool.specs.declared.fault.ToolFault.TheVariants.{ReadFailed, WriteFailed, OutOfMemory, InputTooLong}

-- the line on standard error for a fault
abbrev pub fault_text : ToolFault → List ℕ
fault_text ReadFailed = codes "cobs_tool: read failed"
fault_text WriteFailed = codes "cobs_tool: write failed"
fault_text OutOfMemory = codes "cobs_tool: out of memory"
fault_text InputTooLong = codes "cobs_tool: input too long"

-- a byte as two lower-case hexadecimal digits
abbrev pub hex_of : ℕ → List ℕ
hex_of byte = encode_lower (byte ∷ [])

-- the digits of each byte, with a space (32) between two bytes, and then a newline
abbrev pub hex_line : List ℕ → List ℕ
hex_line bytes = join_with_byte 32 (map hex_of bytes) ++ codes "\n"
