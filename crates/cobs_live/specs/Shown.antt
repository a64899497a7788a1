-- The text that is shown for a stream.
use Rattle.std.specs.Prelude.{ℕ, ◌+◌, ◌==◌, ◌&&◌, Bool, true, false, not, List, [], ◌∷◌, ◌++◌, length, codes, if◌then◌else◌}
use Rattle.std.specs.Fmt.{decimal}
use Rattle.std.specs.List.{list_all}
use Rattle.std.specs.Str.{chars}
use Rattle.std.specs.Str.Lossy.{utf8_valid_len}
use Rattle.cobs_live.specs.Escaped.{is_hidden}
use Rattle.cobs_lines.specs.Lines.{spaced_digits}
use Rattle.cobs_live.specs.Counted.{counted}
use Rattle.cobs_live.specs.Dump.{dump}
use Rattle.cobs_live.specs.Json.{json}
use Rattle.cobs_live.specs.Capture.{packet}
use Rattle.cobs_live.specs.Seen.{Ended, Seen, heading, seen_piece}
use Rattle.cobs_live.specs.Timed.{stamped}
use Rattle.cobs_live.specs.declared.clock.Moment.{Moment}
use Rattle.cobs_live.specs.declared.clock.Stamp.{Stamp}
use Rattle.cobs_live.specs.declared.clock.Times.{Times}
use Rattle.cobs_live.specs.declared.seen.Kind.{Kind}
use Rattle.cobs_live.specs.declared.seen.Kind.TheVariants.{Message, Broken, TooLong, BadCrc}
use Rattle.cobs_live.specs.declared.shown.Filter.{Filter}
use Rattle.cobs_live.specs.declared.shown.View.{View}
use Rattle.cobs_live.specs.declared.shown.Style.{Style}
use Rattle.cobs_live.specs.declared.shown.Style.TheVariants.{Hex, Text, Raw, Hexdump, Json, Pcap}
use Rattle.cobs_live.specs.declared.tally.Tally.{Tally}

-- whether the bytes are UTF-8 without hidden characters
abbrev pub is_plain : List ℕ → Bool
is_plain bytes = (utf8_valid_len bytes == length bytes) && list_all (λ c. not (is_hidden c)) (chars bytes)

-- a space and a text, or nothing for the empty text
abbrev pub spaced : List ℕ → List ℕ
spaced [] = []
spaced (byte ∷ bytes) = codes " " ++ (byte ∷ bytes)

-- the line of a piece: its heading, and then its bytes as digits. With `color`, the title in the heading has the colour
-- of the piece's kind.
abbrev pub hex_line : (color : Bool) → Seen → List ℕ
hex_line color seen = heading color seen ++ spaced_digits seen.bytes ++ codes "\n"

-- as `hex_line`, with the bytes as text if they are UTF-8 without hidden characters
abbrev pub text_line : (color : Bool) → Seen → List ℕ
text_line color seen = heading color seen ++ (if is_plain seen.bytes then spaced seen.bytes else spaced_digits seen.bytes) ++ codes "\n"

-- as `hex_line`, with the bytes below the line, sixteen per line
abbrev pub dump_lines : (color : Bool) → Seen → List ℕ
dump_lines color seen = heading color seen ++ codes "\n" ++ dump seen.bytes

-- the text of a piece in a style that shows only messages: nothing if the piece is no message
abbrev pub of_message : Kind → List ℕ → List ℕ
of_message Message text = text
of_message Broken text = []
of_message TooLong text = []
of_message BadCrc text = []

-- the text of a piece with this number and these times in a style; only titles have colours
abbrev pub styled : Style → (color : Bool) → ℕ → Stamp → Times → Seen → List ℕ
styled Hex color number stamp times seen = hex_line color seen
styled Text color number stamp times seen = text_line color seen
styled Raw color number stamp times seen = of_message seen.kind (seen.bytes ++ codes "\n")
styled Hexdump color number stamp times seen = dump_lines color seen
styled Json color number stamp times seen = json number stamp times seen
styled Pcap color number stamp times seen = of_message seen.kind (packet times.next.millis seen.bytes)

-- the time before the line of a piece. It is empty for a JSON object, which contains the time itself, and for the
-- styles that show only messages.
abbrev pub in_front : Style → Stamp → Times → List ℕ
in_front Hex stamp times = stamped stamp times
in_front Text stamp times = stamped stamp times
in_front Raw stamp times = []
in_front Hexdump stamp times = stamped stamp times
in_front Json stamp times = []
in_front Pcap stamp times = []

-- the number of a piece and a space, before its line, or nothing if pieces are shown without numbers
abbrev pub numbered : Bool → ℕ → List ℕ
numbered true number = decimal number ++ codes " "
numbered false number = []

-- whether a filter lets the pieces of a kind through
abbrev pub passes : Filter → Kind → Bool
passes filter Message = filter.messages
passes filter Broken = filter.broken
passes filter TooLong = filter.too_long
passes filter BadCrc = filter.bad_crc

-- the text of a piece with this number and these times in a view
abbrev pub in_view : View → ℕ → Times → Seen → List ℕ
in_view view number times seen = if passes view.filter seen.kind then in_front view.style view.stamp times ++ numbered view.number number ++ styled view.style view.color number view.stamp times seen else []

-- THE TEXT OF A PIECE that follows `index` other pieces. Pieces are numbered from 1 on, and each piece has a time.
abbrev pub shown : View → (ℕ → Moment) → ℕ → Ended → List ℕ
shown view times index piece = in_view view (counted (index + 1)) (record { last = times index; next = times (index + 1) }) (seen_piece view.checksum view.partial piece)

-- the text of pieces that follow `index` other pieces
unfoldable pub shown_from : View → (ℕ → Moment) → ℕ → List Ended → List ℕ
shown_from view times index [] = []
shown_from view times index (piece ∷ pieces) = shown view times index piece ++ shown_from view times (index + 1) pieces

-- the text that says that a piece has begun, by style; it is empty in the styles that show only messages
abbrev pub unfinished_in : Style → List ℕ
unfinished_in Hex = codes "unfinished\n"
unfinished_in Text = codes "unfinished\n"
unfinished_in Raw = []
unfinished_in Hexdump = codes "unfinished\n"
unfinished_in Json = codes "{\"kind\":\"unfinished\"}\n"
unfinished_in Pcap = []

-- the text after a stream that has ended. If a piece has begun, and the filter lets unfinished pieces through, this is
-- the text that says so in the style; otherwise it is empty.
abbrev pub shown_end : View → Bool → List ℕ
shown_end view begun = if begun && view.filter.unfinished then unfinished_in view.style else []

-- the text of the counts; if messages should end with checksums, the text also says how many checksums were wrong
abbrev pub tally_text : Tally → List ℕ
tally_text tally =
    codes "messages " ++ decimal tally.messages ++ codes ", broken " ++ decimal tally.broken ++ codes ", too long " ++ decimal tally.too_long ++ (if tally.checked then codes ", bad crc " ++ decimal tally.bad_crc else []) ++ codes ", bytes " ++ decimal tally.bytes
