-- By `shorter` of `law_13`, an open frame is the encoded frame if its message doesn't end in a full run.
-- `law_13`: The open frame of a streaming encoder.
use Rattle.cobs_vectors.proofs.doc_laws.as_encoded.Goals as goal

pub returns : goal.returns
returns c = c.law_13.ensures.shorter _ _ _ _ c.requires.open c.requires.last_run
