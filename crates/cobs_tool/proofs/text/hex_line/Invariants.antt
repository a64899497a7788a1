-- The line so far has the two digits of each byte before index `at`, with a space between two bytes (32 is the space).
use Rattle.std.proofs.Common.{◌≡◌, string_bytes, map, take}
use Rattle.std.specs.List.{join_with_byte}
use Rattle.cobs_tool.specs.Text.{hex_of}
use Rattle.cobs_tool.proofs.text.hex_line.Given as goal

abbrev pub invariant-loop-at : goal.invariant-loop-at
invariant-loop-at l = string_bytes l.line ≡ join_with_byte 32 (map hex_of (take l.at l.bytes))
