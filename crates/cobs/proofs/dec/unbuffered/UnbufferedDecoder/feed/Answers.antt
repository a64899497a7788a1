-- The result, the buffer and the phase are those that specs/Step.antt defines for a byte. So `Feeds` holds as it does for
-- these definitions (`Feeds-as`), and the tactics prove `FeedsByTable`.
use Rattle.std.proofs.Common.{◌≡◌, sym, refl, arith}
use Rattle.cobs.specs.Feed.{Overlong}
use Rattle.cobs.specs.Fields.Decoders.{phase_of}
use Rattle.cobs.proofs.streaming.FeedLemmas.{Feeds-as, Feeds-zero, over_is}
use Rattle.cobs.proofs.streaming.OpenLemmas.{full-buffer}
use Rattle.cobs.proofs.dec.unbuffered.UnbufferedDecoder.feed.Goals.{else-self-eq0-via-then-self-eq0+else-take_byte, else-self-eq0-via-else-self-eq0}
use Rattle.cobs.proofs.dec.unbuffered.UnbufferedDecoder.feed.Goals as goal

-- a zero
pub returns-then-byte-eq0-clause-feeds : goal.returns-then-byte-eq0-clause-feeds
returns-then-byte-eq0-clause-feeds c = rw (c.if-byte-eq0.true, c.end.ensures.returned, c.end.ensures.idle) (Feeds-zero _ _)

-- a byte whose output fits
pub returns-then-take_byte-clause-feeds : goal.returns-then-take_byte-clause-feeds
returns-then-take_byte-clause-feeds c =
    let f = c.take_byte.ensures.fed c.if-take_byte.true in
    Feeds-as (grind arith) (grind arith) (grind arith)

-- the piece is or becomes too long, and nothing changes in the buffer
pub returns-clause-feeds : goal.returns-clause-feeds
returns-clause-feeds c =
    let nz = c.if-byte-eq0.false in
    elim c.else-self-eq0.branch [
      | else-self-eq0-via-then-self-eq0+else-take_byte w ↦
          let over = w.take_byte.ensures.full w.if-take_byte.false in
          let same = w.take_byte.ensures.same w.if-take_byte.false in
          rw (w.dest-is, same.0) (Feeds-as (grind arith) (grind arith) (sym (full-buffer _ _ _ nz over)))
      | else-self-eq0-via-else-self-eq0 w ↦
          let over : phase_of c.args.self.now ≡ Overlong = over_is c.args.self.now w.if-self-eq0.false in
          rw (w.dest-is, over) (Feeds-as (grind arith) (grind arith) refl)
    ]
