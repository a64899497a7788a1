-- The outcomes of the pieces of a stream, as text.
use Rattle.std.specs.Prelude.{ℕ, List, [], ◌++◌, codes, if◌then◌else◌}
use Rattle.std.specs.List.{flat_map}
use Rattle.cobs_lines.specs.Lines.{outcome_line}
use Rattle.cobs.specs.Stream.{is_nonempty, stream_outcomes, unended}

-- the length of the longest message that is decoded
abbrev pub longest_message : ℕ
longest_message = 65536

-- the line for an unfinished piece, or nothing if no piece has begun after the last zero
abbrev pub unfinished_line : List ℕ → List ℕ
unfinished_line stream = if is_nonempty (unended stream) then codes "unfinished\n" else []

-- a line for each piece that has ended in the stream, in order, and then the line for an unfinished piece
abbrev pub report : List ℕ → List ℕ
report stream = flat_map outcome_line (stream_outcomes stream longest_message) ++ unfinished_line stream
