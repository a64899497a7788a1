-- The call shows the bytes that the read returned, after those of the stream so far (s is the state before the call).
-- `RunLemmas` has a lemma for each part of the state after the call (`more-ended`, `more-left`, `more-tallied`,
-- `more-timed`). On every path the run stays live (`live-next`).
-- `law_9`: A stream may be cut anywhere.
use Rattle.std.proofs.Common.{◌≡◌, ℕ, Bool, ◌++◌, Option, subst, List, length, take, drop, ap, ◌∙◌, sym, length-take-le, arith, rules}
use Rattle.std.proofs.KnownBytes.{Appends-kept}
use Rattle.cobs.specs.Feed.{DecoderAfter}
use Rattle.cobs.specs.Laws.{StreamLaw}
use Rattle.cobs_live.specs.Reads.{Takes}
use Rattle.cobs_live.specs.declared.clock.Times.{Times}
use Rattle.cobs.specs.Fields.Decoders.{phase_of}
use Rattle.cobs.specs.Sentinel.{xor_each}
use Rattle.cobs.specs.Stream.{unended}
use Rattle.cobs_live.specs.Watched.{begun, skips_on}
use Rattle.cobs_live.proofs.RunLemmas.{flushed-Appends, more-ended, more-left, more-read, more-skips, more-tallied, more-timed, whole-message, given-next, next-failed, nothing-read, live-next, newly, opened, same-tallied, shown-all, shown-ended, unfinished-next}
use Rattle.cobs_live.proofs.show.Watch.show_next.Goals as goal

-- the read returned no bytes: the input has ended, and everything was shown (`shown-all`)
pub returns-then-count-eq0-clause-shown : goal.returns-then-count-eq0-clause-shown
returns-then-count-eq0-clause-shown g c = λ settings from before s.
    -- the read returned no byte, and `takes` is its clause `Takes`
    let none : c.in-Ok.count ≡ 0 = c.if-count-eq0.true in
    let takes = c.in-Ok.ensures.takes in
    shown-all (assumption c.law_9.ensures) s (rw none at takes.1) (takes.2 none (omega (arith, c.in-Ok.ensures.len, c.requires.some))) c.in_ok-end.ensures.shown

-- the read returned bytes, and the pieces that end in them were shown
pub returns-clause-shown : goal.returns-clause-shown
returns-clause-shown g c = λ settings from before s.
    let law : StreamLaw = assumption c.law_9.ensures in
    let count : ℕ = c.in-Ok.count in
    let chunk : List ℕ = c.read_chunk.new.chunk in
    let to' : Option (List ℕ) = g.S.LiveInput.remaining c.read_chunk.new.input in
    let takes : Takes (g.S.LiveInput.remaining c.args.input.now) to' count chunk = c.in-Ok.ensures.takes in
    -- the bytes that the read returned; XORed with the sentinel, they are `stream` (`changed`), and without the skipped
    -- bytes they are passed to the decoder (`new`)
    let more : List ℕ = take count chunk in
    let size : length more ≡ count = length-take-le count chunk takes.0 in
    let skipping : Bool = c.args.self.now.skipping in
    let stream : List ℕ = xor_each c.args.self.now.settings.now.sentinel more in
    let changed : c.change_sentinel.new.bytes ≡ stream = c.change_sentinel.ensures in
    let new : c.behind_first-bytes.result.now ≡ newly law s more = subst (λ (l : List ℕ). c.behind_first-bytes.result.now ≡ begun skipping l) changed c.behind_first-bytes.ensures.begun in
    -- the decoder's buffer before the call (`items`), and the decoder's state for it (`start`)
    let items : List ℕ = c.args.self.now.message.items in
    let value : c.deref_mut.result.now ≡ items = c.deref_mut.ensures.value in
    let start : DecoderAfter c.deref_mut.result.now (phase_of c.args.self.now.decoder) (unended (opened law s)) = rw value s.taken in
    -- the clock at this read, which fits the times with the new pieces (`read_now`), and the tally with the read bytes
    -- counted (`counted`)
    let clock : Times = c.update.new.self in
    let read_now = more-read law s clock c.update.ensures.last in
    let counted = rw (sym size) at (c.count_bytes.ensures.more _ _ _ (same-tallied _ _ _ _ _ (sym s.same) s.tallied)) in
    -- the contract of `show_bytes` for the new bytes of the stream
    let shows = rw (new, value) at (c.in_ok-show_bytes.ensures.shown _ start _ _ counted _ read_now) in
    -- the decoder's buffer after the call, which is the whole vector (`whole`)
    let message : List ℕ = c.show_bytes.new.message in
    let same_len : length message ≡ length items = subst (λ (l : List ℕ). length message ≡ length l) value c.in_ok-show_bytes.ensures.len in
    let whole : take c.args.self.now.message.len (message ++ drop (length message) items) ≡ message = whole-message message items c.args.self.now.message.len c.args.self.now.message.ok.0 same_len in
    -- whether bytes are still skipped after the read; and the text of the new pieces was written to the output
    -- (`written`)
    let skips = subst (λ (l : List ℕ). c.behind_first-bytes.new.skipping ≡ skips_on skipping l) changed c.behind_first-bytes.ensures.skips in
    let written = flushed-Appends _ _ _ _ _ c.requires.flushed c.in_ok-flush.ensures.ok (Appends-kept _ _ _ _ shows.written c.in_ok-flush.ensures.bytes) in
    record {
      ended = more-ended law s more clock.next c.update.ensures.later takes.1 written;
      taken = rw (whole, more-left law s more) shows.taken;
      tallied = more-tallied law s _ more shows.tallied;
      timed = more-timed law s _ _ more shows.timed;
      len = ap length whole ∙ same_len ∙ s.len;
      same = s.same;
      skips = skips ∙ more-skips law s more;
    }

-- the read failed: the text of the ended input was written
pub returns-in-Err-clause-shown : goal.returns-in-Err-clause-shown
returns-in-Err-clause-shown g c = λ settings from before s.
    next-failed (assumption c.law_9.ensures) s _ _ c.in-Err.fault c.in-Err.ensures.failed.0
    (shown-ended (assumption c.law_9.ensures) s (nothing-read (assumption c.law_9.ensures) s _ c.in-Err.ensures.failed.1) c.in_ok-end-in-Err.ensures.shown)

-- after a read that returned bytes, the run goes on: it is live, and the results of its reads are the results so far
-- and these bytes
pub returns-clause-goes_on : goal.returns-clause-goes_on
unfolding returns-clause-shown
returns-clause-goes_on g c = λ yes settings start from before s. record {
  so_far = returns-clause-shown g c settings from before s.so_far;
  live = live-next s c.in-Ok.ensures.once;
  given = given-next s c.in-Ok.ensures.once;
}

-- ON EVERY PATH the run is live after the read of this call; the other goals with the ending `-clause-live` say this
-- for the other paths
pub returns-clause-live : goal.returns-clause-live
returns-clause-live g c = λ settings start from before s. live-next s c.in-Ok.ensures.once

pub returns-then-count-eq0-clause-live : goal.returns-then-count-eq0-clause-live
returns-then-count-eq0-clause-live g c = λ settings start from before s. live-next s c.in-Ok.ensures.once

pub returns-in-Err-clause-live : goal.returns-in-Err-clause-live
returns-in-Err-clause-live g c = λ settings start from before s. live-next s c.in-Err.ensures.once

pub returns-in_err-end-in-Err-clause-live : goal.returns-in_err-end-in-Err-clause-live
returns-in_err-end-in-Err-clause-live g c = λ settings start from before s. live-next s c.in-Err.ensures.once

pub returns-in_err-end-clause-live : goal.returns-in_err-end-clause-live
returns-in_err-end-clause-live g c = λ settings start from before s. live-next s c.in-Ok.ensures.once

pub returns-in_err-show_bytes-clause-live : goal.returns-in_err-show_bytes-clause-live
returns-in_err-show_bytes-clause-live g c = λ settings start from before s. live-next s c.in-Ok.ensures.once

pub returns-in_err-flush-clause-live : goal.returns-in_err-flush-clause-live
returns-in_err-flush-clause-live g c = λ settings start from before s. live-next s c.in-Ok.ensures.once

-- A WRITE FAILED: for a fault of a write, `ShowsNext` claims nothing about the text (`unfinished-next`). The other goals
-- with the ending `-clause-shown` say this for the other writes.
pub returns-in_err-end-clause-shown : goal.returns-in_err-end-clause-shown
returns-in_err-end-clause-shown g c = λ settings from before s.
    unfinished-next _ _ _ _ _ _ _ c.in_err-end.field-0.0 (search rules) c.in_err-end.ensures.fault

pub returns-in_err-show_bytes-clause-shown : goal.returns-in_err-show_bytes-clause-shown
returns-in_err-show_bytes-clause-shown g c = λ settings from before s.
    unfinished-next _ _ _ _ _ _ _ c.in_err-show_bytes.field-0.0 (search rules) c.in_err-show_bytes.ensures.fault

pub returns-in_err-end-in-Err-clause-shown : goal.returns-in_err-end-in-Err-clause-shown
returns-in_err-end-in-Err-clause-shown g c = λ settings from before s.
    unfinished-next _ _ _ _ _ _ _ c.in_err-end-in-Err.field-0.0 (search rules) c.in_err-end-in-Err.ensures.fault
