-- The number of decoded bytes is at most the length of the buffer, so the range is within the buffer
-- (`length-take-le`).
use Rattle.std.proofs.Common.{arith, length-take-le}
use Rattle.cobs_vectors.proofs.clients.broken_part.Goals as goal

pub slice_bounds-part-end : goal.slice_bounds-part-end
slice_bounds-part-end g c = grind (arith, length-take-le)
