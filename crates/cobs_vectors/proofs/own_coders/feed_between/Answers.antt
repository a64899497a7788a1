-- A byte is skipped only if it is a zero and the decoder is idle. By `step` of `law_17`, feeding such a zero returns
-- `Ok(None)` and changes nothing, so the skipped byte meets `Feeds`.
-- `law_17`: A decoder of your own, byte by byte.
use Rattle.std.proofs.Common.{None, Ok, subst, sym}
use Rattle.cobs.specs.Feed.{Feeds, Idle, Phase}
use Rattle.cobs_vectors.proofs.own_coders.feed_between.Goals as goal

pub returns-then-is_idle : goal.returns-then-is_idle
returns-then-is_idle c =
    let buffer = c.args.buffer.now in
    subst (λ (phase : Phase). Feeds buffer phase c.args.byte (Ok None) buffer phase) (sym (c.is_idle.ensures.idle.0 c.if-is_idle.true))
    (rw c.if-byte-eq0.true (c.law_17.ensures.step buffer Idle 0))
