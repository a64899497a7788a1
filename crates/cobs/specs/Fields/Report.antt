-- The two numbers in a report of a decoded message.
use Rattle.std.specs.Prelude.{ℕ}
use Rattle.cobs.specs.declared.error.DecodeReport.{DecodeReport}

-- how many bytes of the source were consumed
abbrev pub parsed_size_of : DecodeReport → ℕ
parsed_size_of report = report.parsed_size

-- how many bytes the message has
abbrev pub frame_size_of : DecodeReport → ℕ
frame_size_of report = report.frame_size
