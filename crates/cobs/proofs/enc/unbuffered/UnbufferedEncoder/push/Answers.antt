-- If there is no room, the frame of all bytes so far doesn't fit: it would end at `end_after` (`after-end`).
use Rattle.std.proofs.Common.{arith, refl}
use Rattle.cobs.proofs.encoding.AfterLemmas.{after-end, after-place}
use Rattle.cobs.proofs.enc.unbuffered.UnbufferedEncoder.push.Goals as goal

pub returns-then-not-has_room-clause-fits : goal.returns-then-not-has_room-clause-fits
returns-then-not-has_room-clause-fits c = λ m h.
    let end = after-end h c.args.bytes.now in
    (λ t. cc, λ le. cc (c.has_room.ensures.1 (record { place = after-place h; fits = omega arith })))

pub returns-else-not-is_empty-clause-fits : goal.returns-else-not-is_empty-clause-fits
returns-else-not-is_empty-clause-fits c = λ m h.
    let end = after-end h c.args.bytes.now in
    let room = (c.has_room.ensures.0 c.if-not-has_room.false).fits in
    (λ t. omega arith, λ le. refl)
