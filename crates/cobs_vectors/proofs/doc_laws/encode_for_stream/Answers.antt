-- The bytes that `encode` wrote read as the message. By `message` of `law_11`, their outcome in a buffer of n bytes is
-- then the message, since the message fits (`held`).
-- `law_11`: A frame in a stream is decoded as its message.
use Rattle.cobs_vectors.proofs.doc_laws.encode_for_stream.Goals as goal

pub returns : goal.returns
returns c n held = c.law_11.ensures.message _ _ n c.encode.ensures.frame.reads held
