-- If `reads_as` returned true, the received bytes read as the message. By `message` of `law_7` the message is then a
-- front of m, the message as which the received and the lost bytes read together.
-- `law_7`: The fronts of a frame.
use Rattle.cobs_vectors.proofs.doc_laws.is_begun.Goals as goal

pub returns : goal.returns
returns c lost m is reads = c.law_7.ensures.message _ lost _ m reads (c.reads_as.ensures.0 is).0
