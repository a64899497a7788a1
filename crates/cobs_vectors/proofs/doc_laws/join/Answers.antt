-- The vector has the bytes of the first frame, and then those of the second (`joined`). By `joined` of `law_8`, both
-- together are a frame. m and k are the messages of the two frames.
-- `law_8`: Frames joined without a sentinel.
use Rattle.std.proofs.Common.{◌≡◌, ◌++◌, rules, subst, sym}
use Rattle.cobs.specs.Grammar.{IsFrame}
use Rattle.cobs_vectors.proofs.doc_laws.join.Goals as goal

pub returns : goal.returns
returns c m k first second =
    let joined : c.extend_from_slice.new.self.items ≡ c.args.first.now ++ c.args.second.now = search rules in
    subst IsFrame (sym joined) (_, c.law_8.ensures.joined _ _ _ _ first second)
