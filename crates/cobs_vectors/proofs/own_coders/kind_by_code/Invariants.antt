-- The piece is a frame if and only if the bytes from index `read` on are one. It is canonical if and only if these
-- bytes are, and aren't the lone block after a full block (`after_full`). The loop ends, because a code isn't 0.
use Rattle.std.proofs.Common.{◌≢◌, ◌↔◌, ◌-◌, ◌<◌, IsTrue, drop, length}
use Rattle.cobs.specs.Grammar.{IsCanonical, IsFrame, lone_block}
use Rattle.cobs_vectors.proofs.own_coders.kind_by_code.Given as goal

abbrev pub invariant-by_block : goal.invariant-by_block
invariant-by_block l = record {
  within : l.read < length l.piece;
  frame : IsFrame l.piece ↔ IsFrame (drop l.read l.piece);
  canonical : IsCanonical l.piece ↔ (IsCanonical (drop l.read l.piece) × (IsTrue l.after_full → drop l.read l.piece ≢ lone_block));
}

abbrev pub decreases-by_block : goal.decreases-by_block
decreases-by_block l = length l.piece - l.read
