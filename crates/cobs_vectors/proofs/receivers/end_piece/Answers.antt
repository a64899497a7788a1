-- By `fed_only` of `law_18`, the bytes f that were fed read as the message that `feed_byte` returned for the zero.
-- `law_18`: Streaming decoders return the message of each frame, and no other message.
use Rattle.cobs_vectors.proofs.receivers.end_piece.Goals as goal

pub returns-in-Ok-Some : goal.returns-in-Ok-Some
returns-in-Ok-Some g c = λ f taken bytes.
    c.law_18.ensures.fed_only _ _ f _ _ c.in-Ok-Some.len (rw c.in-Ok-Some.field-0-is at c.in-Ok-Some.ensures.feeds) taken bytes
