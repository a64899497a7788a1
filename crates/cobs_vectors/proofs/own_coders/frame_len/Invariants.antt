-- The frame is as long as the closed blocks and the frame of the other bytes (`counted`). These are the `run` bytes of
-- the open block, for which the invariant has ones, and the bytes that the loop hasn't gone through yet.
use Rattle.std.proofs.Common.{◌≡◌, ◌<◌, ◌+◌, ◌++◌, drop, replicate}
use Rattle.cobs.specs.Length.{encoded_len}
use Rattle.cobs_vectors.proofs.own_coders.frame_len.Given as goal

abbrev pub invariant-by_byte : goal.invariant-by_byte
invariant-by_byte l = record {
  counted : encoded_len l.message ≡ l.closed + encoded_len (replicate l.run 1 ++ drop l.byte-index l.message);
  short : l.run < 255;
}
