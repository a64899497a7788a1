-- Before the loop no cell is written (`upto-none`), and each iteration writes one more (`upto-more`).
use Rattle.std.proofs.KnownBytes.{Appends-nil, Appends-trans}
use Rattle.cobs_live.proofs.DumpLemmas.{upto-more, upto-none}
use Rattle.cobs_live.proofs.dump.write_cells.Goals as goal

pub by_cell-init : goal.by_cell-init
by_cell-init g c = rw upto-none (Appends-nil _)

pub by_cell-preserved : goal.by_cell-preserved
by_cell-preserved g c = rw upto-more (Appends-trans _ _ _ _ _ c.by_cell.invariant c.in_ok-write_cell.ensures.written)
