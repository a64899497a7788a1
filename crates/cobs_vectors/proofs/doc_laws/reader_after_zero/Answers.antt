-- After a zero the decoder is idle (`zero_idle`). By `idle` of `law_14` it has then taken no byte of a piece, as
-- `FrameReader::new` requires.
-- `law_14`: A decoder is idle if and only if no piece has begun.
use Rattle.std.proofs.Common.{refl}
use Rattle.cobs_vectors.proofs.doc_laws.reader_after_zero.Goals as goal

pub new-requires : goal.new-requires
new-requires c = (c.law_14.ensures.idle _ _).1 (c.feed-ended.ensures.feeds.zero_idle refl)
