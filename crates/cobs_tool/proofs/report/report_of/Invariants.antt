-- The text so far, followed by the report of the bytes that are left, is the report of the stream (`stated`). `left` is
-- these bytes: those that the reader has kept, and those that the source still has. There are at most `max_input` of
-- them (`few`). The reader's decoder is idle, and its buffer has room for the longest message. The loop ends, because
-- each iteration takes at least one of the bytes that are left.
use Rattle.std.proofs.Common.{◌≡◌, ◌≤◌, ◌+◌, [], ◌++◌, length, string_bytes}
use Rattle.cobs.specs.Fields.Decoders.{owned_buffer, owned_phase}
use Rattle.cobs.specs.Feed.{DecoderAfter}
use Rattle.cobs.specs.Fields.Reader.{decoder_of, kept_of}
use Rattle.cobs_lines.specs.Memory.{bytes_left}
use Rattle.cobs_tool.specs.Report.{longest_message, report}
use Rattle.cobs_tool.specs.Input.{max_input}
use Rattle.cobs_tool.proofs.report.report_of.Given as goal

abbrev pub invariant-by_piece : goal.invariant-by_piece
invariant-by_piece l =
    let left = kept_of l.frames ++ bytes_left l.source in record {
      stated : string_bytes l.text ++ report left ≡ report l.fn.stream;
      few : length left ≤ max_input;
      idle : DecoderAfter (owned_buffer (decoder_of l.frames)) (owned_phase (decoder_of l.frames)) [];
      buffer : length (owned_buffer (decoder_of l.frames)) ≡ longest_message;
    }

abbrev pub decreases-by_piece : goal.decreases-by_piece
decreases-by_piece l = length (kept_of l.frames) + length (bytes_left l.source)
