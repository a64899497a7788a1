-- A piece of a stream, with its kind and its bytes, before it is shown.
use Rattle.std.specs.Prelude.{ℕ, ◌-◌, ◌^◌, Bool, true, false, List, [], ◌∷◌, ◌++◌, length, map, min, take, codes, Option, Some, None, if◌then◌else◌}
use Rattle.std.specs.Fmt.{decimal}
use Rattle.cobs.specs.Piece.{output}
use Rattle.cobs.specs.Stream.{Outcome, ended_pieces, outcome_of}
use Rattle.cobs.specs.Stream.{Message as OfMessage, Broken as OfBroken, TooLong as OfTooLong}
use Rattle.cobs_live.specs.Checksum.{body_of, is_checked}
use Rattle.cobs_live.specs.declared.checksum.Checksum.{Checksum}
use Rattle.cobs_live.specs.declared.seen.Kind.{Kind}
use Rattle.cobs_live.specs.declared.seen.Kind.TheVariants.{Message, Broken, TooLong, BadCrc}
use Rattle.cobs_live.specs.declared.seen.Sight.{Sight}

-- the kind of a piece, how many bytes the piece decodes to, and the bytes that can be shown
pub record Seen : Type 0 where
  pub kind : Kind
  pub len : ℕ
  pub bytes : List ℕ

-- the fields of a `Sight`
abbrev pub seen_in : Sight → Seen
seen_in sight = record { kind = sight.kind; len = sight.len; bytes = sight.bytes.now }

-- the text for the kind of a piece, followed by the number of bytes that the piece decodes to. A piece that is too long
-- has no number.
abbrev pub title : Kind → ℕ → List ℕ
title Message len = codes "message " ++ decimal len
title Broken len = codes "broken " ++ decimal len
title TooLong len = codes "too long"
title BadCrc len = codes "bad crc " ++ decimal len

-- the escape sequence that begins the colour of a kind: green, yellow, magenta or red
abbrev pub color_of : Kind → List ℕ
color_of Message = codes "\u{1b}[32m"
color_of Broken = codes "\u{1b}[33m"
color_of TooLong = codes "\u{1b}[35m"
color_of BadCrc = codes "\u{1b}[31m"

-- the escape sequence that ends the colour of every kind
abbrev pub color_end : List ℕ
color_end = codes "\u{1b}[0m"

-- the title, in the colour of its kind if colours are on
abbrev pub titled : (color : Bool) → Kind → ℕ → List ℕ
titled false kind len = title kind len
titled true kind len = color_of kind ++ title kind len ++ color_end

-- a piece of a kind, all of whose bytes are shown
abbrev pub whole : Kind → List ℕ → Seen
whole kind bytes = record { kind = kind; len = length bytes; bytes = bytes }

-- the piece for a message. If messages should end with a checksum, a right checksum is removed from the message, and a
-- wrong one makes the kind `BadCrc`.
abbrev pub seen_message : Option Checksum → List ℕ → Seen
seen_message None message = whole Message message
seen_message (Some checksum) message = if is_checked checksum message then whole Message (body_of checksum message) else whole BadCrc message

-- the piece for an outcome; the length of a piece that is too long is the greatest `u64`
abbrev pub seen_of : Option Checksum → Outcome → Seen
seen_of checksum (OfMessage message) = seen_message checksum message
seen_of checksum (OfBroken count) = record { kind = Broken; len = count; bytes = [] }
seen_of checksum OfTooLong = record { kind = TooLong; len = 2 ^ 64 - 1; bytes = [] }

-- a piece that has ended, in a buffer of n bytes: its outcome, and the first n bytes of its output
pub record Ended : Type 0 where
  pub outcome : Outcome
  pub decoded : List ℕ

-- a piece that has ended in a buffer of n bytes
abbrev pub ended_in : ℕ → List ℕ → Ended
ended_in n piece = record { outcome = outcome_of piece n; decoded = take n (output piece) }

-- the pieces that have ended in a stream, in order
unfoldable pub all_ended : List ℕ → ℕ → List Ended
all_ended t n = map (ended_in n) (ended_pieces t)

-- the bytes to show for a piece of this kind: the message if the piece has one, otherwise the decoded bytes
abbrev pub part_of : Kind → List ℕ → List ℕ → List ℕ
part_of Message message decoded = message
part_of Broken message decoded = decoded
part_of TooLong message decoded = decoded
part_of BadCrc message decoded = message

-- the piece; if the flag is set, and the piece is broken or too long, these decoded bytes are shown for it
abbrev pub with_part : Bool → Seen → List ℕ → Seen
with_part false seen decoded = seen
with_part true seen decoded = record { kind = seen.kind; len = seen.len; bytes = part_of seen.kind seen.bytes decoded }

-- a piece that has ended, before it is shown
abbrev pub seen_piece : Option Checksum → Bool → Ended → Seen
seen_piece checksum partial ended = with_part partial (seen_of checksum ended.outcome) ended.decoded

-- the decoded bytes in a buffer, for a piece of this kind: the first `len` bytes if the piece is broken, and all bytes
-- if it is too long. For the other kinds, `part_of` ignores these bytes.
abbrev pub held : Kind → ℕ → List ℕ → List ℕ
held Message len buffer = buffer
held Broken len buffer = take (min len (length buffer)) buffer
held TooLong len buffer = buffer
held BadCrc len buffer = buffer

-- the word before bytes that are no message, or nothing if there are no bytes
abbrev pub mark_if_any : List ℕ → List ℕ
mark_if_any [] = []
mark_if_any (byte ∷ bytes) = codes " partial"

-- the word before the decoded bytes of a broken or too long piece; nothing for the other kinds
abbrev pub mark : Kind → List ℕ → List ℕ
mark Message bytes = []
mark Broken bytes = mark_if_any bytes
mark TooLong bytes = mark_if_any bytes
mark BadCrc bytes = []

-- the beginning of a piece's line
abbrev pub heading : (color : Bool) → Seen → List ℕ
heading color seen = titled color seen.kind seen.len ++ mark seen.kind seen.bytes
