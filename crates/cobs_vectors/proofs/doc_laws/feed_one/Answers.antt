-- By `nothing` of `law_17`, no piece has ended before the byte. By `byte` of `law_17`, no piece ends with the byte
-- either, since it isn't a zero.
-- `law_17`: A decoder of your own, byte by byte.
use Rattle.std.proofs.Common.{[], ◌∷◌, arith}
use Rattle.cobs_vectors.proofs.doc_laws.feed_one.Goals as goal

pub returns : goal.returns
returns c =
    let law = c.law_17.ensures in
    law.byte (c.args.byte ∷ []) _ _ _ _ _ _ _ 0 (omega arith) (law.nothing _ _) c.feed-returned.ensures.feeds (λ z. absurd (c.requires z))
