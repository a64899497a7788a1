-- At the last read of a run that is live, the right text was written, and the recorder has its length
-- (`right_at_last`).
use Rattle.cobs_live_vectors.proofs.Last.{right_at_last}
use Rattle.cobs_live_vectors.proofs.recorder.send_recorded.Goals as goal

pub returns : goal.returns
returns c = right_at_last _ (λ recorder. recorder.written) (λ from to read s. s) _ _ _ c.run_send.ensures.live
