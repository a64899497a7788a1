-- The index `at` is at most the number of bytes. The loop ends, because each piece takes at least one byte.
use Rattle.std.proofs.Common.{◌≤◌, ◌-◌, length}
use Rattle.cobs_vectors.proofs.clients.longest.Given as goal

abbrev pub invariant-by_piece : goal.invariant-by_piece
invariant-by_piece g l = l.at ≤ length l.bytes

abbrev pub decreases-by_piece : goal.decreases-by_piece
decreases-by_piece g l = length l.bytes - l.at
