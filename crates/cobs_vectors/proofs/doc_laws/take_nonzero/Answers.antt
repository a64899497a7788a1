-- By `joins` of `law_16`, a nonzero byte that is written after the open block is taken. m is the message so far, and h
-- says that the encoder has taken m.
-- `law_16`: An encoder of your own, byte by byte.
use Rattle.cobs.specs.OpenBlock.{place_at}
use Rattle.cobs_vectors.proofs.doc_laws.take_nonzero.Goals as goal

pub returns : goal.returns
returns c m full h =
    c.law_16.ensures.joins _ m (place_at c.args.index c.args.code full) _ h c.requires.byte c.requires.code c.requires.room
