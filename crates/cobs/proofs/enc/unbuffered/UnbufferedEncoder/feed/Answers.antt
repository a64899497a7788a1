-- If there is no room, the frame with the byte doesn't fit: it would end at `end_after` (`after-end`).
use Rattle.std.proofs.Common.{[], ◌∷◌, arith}
use Rattle.cobs.proofs.encoding.AfterLemmas.{after-end, after-place}
use Rattle.cobs.proofs.enc.unbuffered.UnbufferedEncoder.feed.Goals as goal

pub returns-then-not-has_room-clause-fits : goal.returns-then-not-has_room-clause-fits
returns-then-not-has_room-clause-fits c = λ m h.
    let end = after-end h (c.args.byte ∷ []) in
    (λ t. cc, λ le. cc (c.has_room.ensures.1 (record { place = after-place h; fits = omega arith })))
