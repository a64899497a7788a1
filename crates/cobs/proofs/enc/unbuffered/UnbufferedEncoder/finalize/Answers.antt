-- `close` completes the frame, whose length is `end_of` (`end-is`). A frame has no zero (`encoded_nonzero`).
use Rattle.std.proofs.Common.{◌∙◌, sym}
use Rattle.cobs.proofs.encoding.AfterLemmas.{after-place, end-is}
use Rattle.cobs.proofs.format.SentinelLemmas.{encoded_nonzero}
use Rattle.cobs.proofs.enc.unbuffered.UnbufferedEncoder.finalize.Goals as goal

-- the state is impossible in this slice, so the encoder can't have taken a message
pub returns-then-not-has_room-clause-fits : goal.returns-then-not-has_room-clause-fits
returns-then-not-has_room-clause-fits c = λ m h.
    let place = after-place h in
    cc (c.has_room.ensures.1 (record { place = place; fits = place.fits }))

pub returns-clause-len : goal.returns-clause-len
returns-clause-len c = λ m h. c.close-len.ensures.end ∙ sym (end-is h)

pub returns-clause-no_sentinel : goal.returns-clause-no_sentinel
returns-clause-no_sentinel c = λ m h. encoded_nonzero (c.close-len.ensures.frame m h)
