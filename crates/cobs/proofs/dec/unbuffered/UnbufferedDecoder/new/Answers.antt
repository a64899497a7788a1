-- A new decoder is idle, so it has taken no byte of a piece (`DecoderAfter-idle`).
use Rattle.std.proofs.Common.{refl}
use Rattle.cobs.proofs.streaming.FeedLemmas.{DecoderAfter-idle}
use Rattle.cobs.proofs.dec.unbuffered.UnbufferedDecoder.new.Goals as goal

pub returns-clause-after : goal.returns-clause-after
returns-clause-after c = λ buffer. DecoderAfter-idle buffer _ refl
