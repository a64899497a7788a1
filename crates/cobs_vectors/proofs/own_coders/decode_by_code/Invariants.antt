-- The output so far, followed by the kept output of the bytes from index `read` on, is the kept output of the piece
-- (`kept`). The piece is whole if and only if these bytes are (`whole`). The loop ends, because a code isn't 0.
use Rattle.std.proofs.Common.{◌≡◌, ◌++◌, ◌-◌, ◌<◌, drop, length}
use Rattle.cobs.specs.Piece.{is_whole, kept_output}
use Rattle.cobs_vectors.proofs.own_coders.decode_by_code.Given as goal

abbrev pub invariant-by_block : goal.invariant-by_block
invariant-by_block l = record {
  within : l.read < length l.piece;
  whole : is_whole l.piece ≡ is_whole (drop l.read l.piece);
  kept : kept_output l.piece ≡ l.bytes.items ++ kept_output (drop l.read l.piece);
}

abbrev pub decreases-by_block : goal.decreases-by_block
decreases-by_block l = length l.piece - l.read
