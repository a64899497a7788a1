-- For the zero after a frame f of m, the decoder returns the length of m, and its buffer begins with m, by `fed` of
-- `law_18` (`w`). So the arms for `Ok(None)` and for an error are never reached.
-- `law_18`: Streaming decoders return the message of each frame, and no other message.
use Rattle.std.proofs.Common.{◌≡◌, ◌∙◌, ap, length, sym, take, Ok}
use Rattle.cobs_vectors.proofs.clients.on_zero.Goals as goal

-- the decoder returned a length
pub returns-in-Ok-Some : goal.returns-in-Ok-Some
returns-in-Ok-Some g c = λ f m h r fits.
    let w = c.law_18.ensures.fed _ _ f m _ _ c.feed_byte.result c.feed_byte.ensures.feeds h r fits in
    -- the returned length is the length of m
    let len : c.in-Ok-Some.len ≡ length m = (let e = sym (c.in-Ok-Some.is ∙ ap (λ v. Ok v) c.in-Ok-Some.field-0-is) ∙ w.0 in cc) in
    (len, ap (λ n. take n (g.D.FrameDecoder.bytes c.feed_byte.new.self)) len ∙ w.1)

-- the decoder returned `Ok(None)`, which contradicts `w`
pub returns-in-Ok-None : goal.returns-in-Ok-None
returns-in-Ok-None g c = λ f m h r fits.
    let w = c.law_18.ensures.fed _ _ f m _ _ c.feed_byte.result c.feed_byte.ensures.feeds h r fits in
    absurd (let e = sym (c.in-Ok-None.is ∙ ap (λ v. Ok v) c.in-Ok-None.field-0-is) ∙ w.0 in cc)

-- the decoder returned an error, which contradicts `w`
pub returns-in-Err : goal.returns-in-Err
returns-in-Err g c = λ f m h r fits.
    let w = c.law_18.ensures.fed _ _ f m _ _ c.feed_byte.result c.feed_byte.ensures.feeds h r fits in
    absurd (let e = sym c.in-Err.is ∙ w.0 in cc)
