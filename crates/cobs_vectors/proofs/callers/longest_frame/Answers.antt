-- For each length, there is a message with the longest encoded frame. `m` contains this message and facts about it
-- (`everywhere` of `law_4`). `f` contains the encoded frame of this message (`one` of `law_2`).
-- `law_2`: Each message has one encoded frame.
-- `law_4`: The length of a frame, and its bound.
use Rattle.std.proofs.Common.{◌∙◌}
use Rattle.cobs_vectors.proofs.callers.longest_frame.Goals as goal

pub returns : goal.returns
returns c =
    let m = c.law_4.ensures.everywhere c.args.len in
    let f = c.law_2.ensures.one m.0 in
    (m.0, f.0, m.1, m.2, f.1, c.law_2.ensures.bytes f.0 m.0 f.1 m.2, c.law_2.ensures.len f.0 m.0 f.1 ∙ m.3)
