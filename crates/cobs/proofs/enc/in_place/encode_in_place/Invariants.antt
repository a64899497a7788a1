-- The encoder has taken the message's first `taken` bytes (`after`), and the bytes of the buffer after the frame so far
-- are as they were (`rest`). So the bytes of the message that are still to be read are unchanged.
use Rattle.std.proofs.Common.{◌≡◌, drop, take}
use Rattle.cobs.specs.OpenBlock.{CobsEncoderAfter, end_of}
use Rattle.cobs.specs.Fields.Progress.{reached_by}
use Rattle.cobs.proofs.enc.in_place.encode_in_place.Given as goal

abbrev pub invariant-by_byte : goal.invariant-by_byte
invariant-by_byte l = record {
  after : CobsEncoderAfter l.buffer (reached_by l.encoder) (take l.taken (drop l.start l.fn.buffer));
  rest : drop (end_of (reached_by l.encoder)) l.buffer ≡ drop (end_of (reached_by l.encoder)) l.fn.buffer;
}
