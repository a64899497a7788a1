-- No byte before index i is a zero. So the bytes from index i on have the same bytes after their first zero as all
-- bytes have (`begun`), and `skips_on` returns the same for them as for all bytes (`skips`). Bytes were skipped before
-- the call (`awaited`).
use Rattle.std.proofs.Common.{◌≡◌, true, drop}
use Rattle.cobs_live.specs.Watched.{begun, skips_on}
use Rattle.cobs_live.proofs.show.behind_first.Given as goal

abbrev pub invariant-loop-i : goal.invariant-loop-i
invariant-loop-i l = record {
  begun : begun true (drop l.i l.bytes) ≡ begun true l.bytes;
  skips : skips_on true (drop l.i l.bytes) ≡ skips_on true l.bytes;
  awaited : l.skipping ≡ true;
}
