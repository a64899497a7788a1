-- The rows with a number below `row` are written, one after another (`upto`).
use Rattle.std.specs.Io.KnownBytes.{Appends}
use Rattle.cobs_live.specs.Dump.{numbered_row, upto}
use Rattle.cobs_live.proofs.dump.write_dump.Given as goal

abbrev pub invariant-by_row : goal.invariant-by_row
invariant-by_row g l = Appends (g.W.Write.contents l.fn.output) (g.W.Write.contents l.output) (upto (numbered_row l.bytes) l.row)
