-- The times at which pieces were read, and their text.
use Rattle.std.specs.Prelude.{ℕ, ◌≡◌, ◌≤◌, ◌<◌, ◌+◌, ◌-◌, ◌/◌, ◌%◌, ◌^◌, false, List, [], ◌++◌, Some, pos, codes, if◌then◌else◌}
use Rattle.std.specs.Fmt.{decimal, digits, padded_integral, format_spec}
use Rattle.std.specs.Ordering.{int_eq}
use Rattle.jiff_core.specs.declared.offset.Offset.{Offset}
use Rattle.jiff_fmt.specs.Text.{datetime_text, offset_text}
use Rattle.cobs_live.specs.declared.clock.Moment.{Moment}
use Rattle.cobs_live.specs.declared.clock.Stamp.{Stamp}
use Rattle.cobs_live.specs.declared.clock.Stamp.TheVariants.{Untimed, Start, Last, Date}
use Rattle.cobs_live.specs.declared.clock.Times.{Times}

-- `times number` is the time of the piece with this number. The times never decrease. The time with number 0, before
-- the first piece, is 0 milliseconds: the start of the run, or of 1970 for `Date`.
pub record IsTimeline (times : ℕ → Moment) : Type 0 where
  pub start : (times 0).millis ≡ 0
  pub rises : (number : ℕ) → (times number).millis ≤ (times (number + 1)).millis

-- the piece with this number was the last one so far, at the time `clock.last`, and all later pieces have the time
-- `clock.next`
pub record IsReadAt (times : ℕ → Moment) (number : ℕ) (clock : Times) : Type 0 where
  pub last : clock.last ≡ times number
  pub now : (later : ℕ) → number < later → times later ≡ clock.next

-- a decimal number, with zeros before it up to this width
abbrev pub padded : ℕ → ℕ → List ℕ
padded width n = padded_integral (format_spec 32 0 4 width (2 ^ 64 - 1)) false [] (digits 10 false n)

-- milliseconds as seconds with three decimals
abbrev pub seconds : ℕ → List ℕ
seconds time = decimal (time / 1000) ++ codes "." ++ padded 3 (time % 1000)

-- the offset of a time zone from UTC; the text for an offset of 0 seconds is `Z`
abbrev pub zone_text : Offset → List ℕ
zone_text offset = if int_eq offset.seconds (pos 0) then codes "Z" else offset_text offset

-- the date and the time of day as in RFC 3339, with an upper-case T (84) between them and three decimals of the second
abbrev pub date_time : Moment → List ℕ
date_time moment = datetime_text false 84 (Some 3) moment.civil ++ zone_text moment.offset

-- the time that is shown for a piece. It depends on the stamp, and on the times at which the piece and the preceding
-- piece were read.
abbrev pub time_text : Stamp → Times → List ℕ
time_text Untimed times = []
time_text Start times = seconds times.next.millis
time_text Last times = seconds (times.next.millis - times.last.millis)
time_text Date times = date_time times.next

-- the text that begins a line: the time of the piece and a space, or nothing for `Untimed`
abbrev pub stamped : Stamp → Times → List ℕ
stamped Untimed times = []
stamped Start times = time_text Start times ++ codes " "
stamped Last times = time_text Last times ++ codes " "
stamped Date times = time_text Date times ++ codes " "

-- the time as a member of a JSON object: a number of seconds, or a string for a date. For `Untimed` there is no such
-- member.
abbrev pub json_time : Stamp → Times → List ℕ
json_time Untimed times = []
json_time Start times = codes ",\"time\":" ++ time_text Start times
json_time Last times = codes ",\"time\":" ++ time_text Last times
json_time Date times = codes ",\"time\":\"" ++ time_text Date times ++ codes "\""
