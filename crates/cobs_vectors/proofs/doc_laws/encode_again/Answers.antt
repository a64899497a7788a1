-- `encode` writes an encoded frame of the message, and by `only` of `law_2` no two of them differ.
-- `law_2`: Each message has one encoded frame.
use Rattle.cobs_vectors.proofs.doc_laws.encode_again.Goals as goal

pub returns : goal.returns
returns c = c.law_2.ensures.only _ _ _ c.encode.ensures.frame c.requires.frame
