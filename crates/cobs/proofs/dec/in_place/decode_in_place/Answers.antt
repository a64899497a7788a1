-- The clauses `reads` and `only` are those of `decode_in_place_report`, with the report's `frame_size` in place of the
-- report. In the two proofs of `reads`, `stated` is what this clause of `decode_in_place_report` says of m; `grind`
-- uses this fact.
use Rattle.std.proofs.Common.{arith}
use Rattle.cobs.proofs.dec.in_place.decode_in_place.Goals as goal

-- `decode_in_place_report` returned an error, so the buffer isn't a frame
pub returns-in_err-decode_in_place_report-clause-reads : goal.returns-in_err-decode_in_place_report-clause-reads
returns-in_err-decode_in_place_report-clause-reads c m r = let stated = c.decode_in_place_report.ensures.reads m r in grind arith

-- and an error isn't a message
pub returns-in_err-decode_in_place_report-clause-only : goal.returns-in_err-decode_in_place_report-clause-only
returns-in_err-decode_in_place_report-clause-only c piece m stated = grind arith

-- `decode_in_place_report` returned a report with the length of the message
pub returns-clause-reads : goal.returns-clause-reads
returns-clause-reads c m r = let stated = c.decode_in_place_report.ensures.reads m r in grind arith

pub returns-clause-only : goal.returns-clause-only
returns-clause-only c piece m stated = grind arith
