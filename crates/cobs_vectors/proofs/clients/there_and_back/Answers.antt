-- The frame reads as the message m, so `decode` returned the length of m (`reads`). So the case that the lengths
-- differ, for which the function returns false, is impossible.
use Rattle.std.proofs.Common.{ℕ, List, ◌∙◌}
use Rattle.cobs_vectors.proofs.clients.there_and_back.Goals as goal

pub returns-else-frame_size-message : goal.returns-else-frame_size-message
returns-else-frame_size-message c =
    let m : List ℕ = c.args.message.now in
    let reads = c.in-Ok.ensures.reads m c.encode-len.ensures.frame.reads c.requires.held in
    absurd (c.if-frame_size-message.false (c.frame_size.ensures.size ∙ reads.0))
