-- The frame is that of `jcobs_encoder_finish`, with each byte XORed with the sentinel. So `Finishes-changed` gives the
-- postcondition, with the clauses `free` and `back` of `law_6`.
-- `law_6`: No frame contains its sentinel; a second XOR restores the frame.
use Rattle.cobs_c.proofs.FinishLemmas.{Finishes-changed}
use Rattle.cobs_c.proofs.encoder.jcobs_encoder_finish_with_sentinel.Goals as goal

pub returns : goal.returns
returns c = record { finishes = Finishes-changed c.law_6.ensures.free c.law_6.ensures.back c.args.sentinel c.xor_bytes.ensures.changed c.jcobs_encoder_finish-returned.ensures.finishes }
