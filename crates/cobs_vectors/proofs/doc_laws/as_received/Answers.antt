-- By `received` of `law_6`, bytes that are a frame once they are XORed with a sentinel don't contain the sentinel.
-- `held` says that they are.
-- `law_6`: No frame contains its sentinel; a second XOR restores the frame.
use Rattle.cobs_vectors.proofs.doc_laws.as_received.Goals as goal

pub returns : goal.returns
returns c held = c.law_6.ensures.received _ _ held
