-- Before the loop no row is written (`upto-none`), and each iteration writes one row more (`upto-more`). The bytes of
-- the row are those that `numbered_row` states (`row_of`).
use Rattle.std.proofs.Common.{◌*◌}
use Rattle.std.proofs.KnownBytes.{Appends-nil, Appends-trans}
use Rattle.cobs_live.proofs.DumpLemmas.{row_of, upto-more, upto-none}
use Rattle.cobs_live.proofs.dump.write_dump.Goals as goal

pub by_row-init : goal.by_row-init
by_row-init g c = rw upto-none (Appends-nil _)

pub by_row-preserved : goal.by_row-preserved
by_row-preserved g c =
    let row = row_of c.args.bytes.now (16 * c.by_row.row) c.min-end.result c.min-end.ensures in
    rw upto-more (Appends-trans _ _ _ _ _ c.by_row.invariant (rw row at c.in_ok-write_row.ensures.written))
