-- The bounds of a frame's length are lemmas of `LengthLemmas`. By `encoded_len-longer`, the frame doesn't get shorter
-- if bytes are appended to the message.
use Rattle.std.proofs.Common.{arith}
use Rattle.cobs.proofs.format.LengthLemmas.{encoded_len-le, encoded_len-nonzero, encoded_len-reached}
use Rattle.cobs.proofs.encoding.RoomLemmas.{encoded_len-longer}
use Rattle.cobs.proofs.laws.law_4.Goals as goal

pub returns : goal.returns
returns c = grind (arith, encoded_len-le, encoded_len-nonzero, encoded_len-reached, encoded_len-longer)
