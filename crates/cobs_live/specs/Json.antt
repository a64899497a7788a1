-- A piece as a JSON object on a line.
use Rattle.std.specs.Prelude.{ℕ, ◌==◌, List, [], ◌∷◌, ◌++◌, length, codes, if◌then◌else◌}
use Rattle.std.specs.Fmt.{decimal}
use Rattle.std.specs.Str.Lossy.{utf8_valid_len}
use Rattle.hex.specs.Hex.{encode_lower}
use Rattle.cobs_live.specs.Escaped.{text_escaped}
use Rattle.cobs_live.specs.Seen.{Seen}
use Rattle.cobs_live.specs.Timed.{json_time}
use Rattle.cobs_live.specs.declared.clock.Stamp.{Stamp}
use Rattle.cobs_live.specs.declared.clock.Times.{Times}
use Rattle.cobs_live.specs.declared.seen.Kind.{Kind}
use Rattle.cobs_live.specs.declared.seen.Kind.TheVariants.{Message, Broken, TooLong, BadCrc}

-- the member with the text of a message, or nothing if the message isn't UTF-8
abbrev pub json_text : List ℕ → List ℕ
json_text bytes = if utf8_valid_len bytes == length bytes then codes ",\"text\":\"" ++ text_escaped bytes ++ codes "\"" else []

-- the members with the length, the bytes and the text of a message
abbrev pub json_message : ℕ → List ℕ → List ℕ
json_message len bytes = codes ",\"length\":" ++ decimal len ++ codes ",\"hex\":\"" ++ encode_lower bytes ++ codes "\"" ++ json_text bytes

-- the member with the bytes of a piece that is no message, or nothing if they aren't shown
abbrev pub json_partial : List ℕ → List ℕ
json_partial [] = []
json_partial (byte ∷ bytes) = codes ",\"hex\":\"" ++ encode_lower (byte ∷ bytes) ++ codes "\""

-- the value of the member `kind`, and the members after it: the number of bytes that the piece decodes to, unless the
-- piece is too long; the bytes that are shown; and the text of a message, even if its checksum is wrong
abbrev pub json_kind : Kind → ℕ → List ℕ → List ℕ
json_kind Message len bytes = codes "\"message\"" ++ json_message len bytes
json_kind Broken len bytes = codes "\"broken\",\"length\":" ++ decimal len ++ json_partial bytes
json_kind TooLong len bytes = codes "\"too-long\"" ++ json_partial bytes
json_kind BadCrc len bytes = codes "\"bad-crc\"" ++ json_message len bytes

-- the line of a piece with this number and these times: a JSON object
abbrev pub json : ℕ → Stamp → Times → Seen → List ℕ
json number stamp times seen = codes "{\"frame\":" ++ decimal number ++ json_time stamp times ++ codes ",\"kind\":" ++ json_kind seen.kind seen.len seen.bytes ++ codes "}\n"
