-- The cells for the numbers `from` to from + i - 1 of the row are written (`upto`).
use Rattle.std.proofs.Common.{◌+◌}
use Rattle.std.specs.Io.KnownBytes.{Appends}
use Rattle.cobs_live.specs.Dump.{cell, upto}
use Rattle.cobs_live.proofs.dump.write_cells.Given as goal

abbrev pub invariant-by_cell : goal.invariant-by_cell
invariant-by_cell g l = Appends (g.W.Write.contents l.fn.output) (g.W.Write.contents l.output) (upto (λ i. cell l.row (l.from + i)) l.i)
