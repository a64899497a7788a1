-- The encoder has taken the bytes that the loop has gone through (`CobsEncoderAfter`): `dest` has their frame, except
-- the code of the open block. `dest` keeps its length.
use Rattle.std.proofs.Common.{◌≡◌, take, length}
use Rattle.cobs.specs.OpenBlock.{CobsEncoderAfter, place_at}
use Rattle.cobs_vectors.proofs.own_coders.encode_by_byte.Given as goal

abbrev pub invariant-by_byte : goal.invariant-by_byte
invariant-by_byte l = record {
  taken : CobsEncoderAfter l.dest (place_at l.index l.code l.full) (take l.byte-index l.message);
  len : length l.dest ≡ length l.fn.dest;
}
