-- The vector has the bytes with which it was passed, and then a zero for each iteration so far.
use Rattle.std.proofs.Common.{◌≡◌, ◌++◌, replicate}
use Rattle.cobs.proofs.dec.heapless.CobsDecoderHeapless.new_with_vec.Given as goal

abbrev pub invariant-fill : goal.invariant-fill
invariant-fill g l = l.dest.items ≡ l.fn.vec.items ++ replicate l._i 0
