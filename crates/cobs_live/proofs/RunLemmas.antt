-- Lemmas on a run of `show`. After each read the facts of `HasShownSoFar` still hold, and the run is still live
-- (`live-next`, `given-next`). The lemmas `more-..` show the parts of `HasShownSoFar` after a read that returned bytes.
-- At the end of the input and after each fault, the text is the one that `HasShown` describes (`shown-..`,
-- `unfinished-fault`).
-- `law_9`: A stream may be cut anywhere.
use Rattle.std.proofs.Common.{◌≡◌, ◌≢◌, ◌≤◌, ◌+◌, ◌↔◌, ℕ, Bool, true, false, List, [], ◌∷◌, ◌++◌, length, take, drop, refl, sym, ap, ◌∙◌, subst, arith, append-nil, length-append, Option, Some, None, Result, Ok, Err}
use Rattle.std.specs.Prelude.{IsErrAnd}
use Rattle.std.proofs.Math.Seq.{take-append_seam}
use Rattle.std.proofs.lemmas.List.{map-append}
use Rattle.std.proofs.lemmas.List.Elements.{All-nil}
use Rattle.std.proofs.KnownBytes.{Appends-nil, Appends-trans, Consumes-nil, Consumes-trans, Consumes-kept}
use Rattle.std.specs.Io.KnownBytes.{Appends, Consumes, IsAtEnd, Keeps, append_known}
use Rattle.cobs.specs.Sentinel.{xor_each}
use Rattle.cobs.specs.Stream.{Outcome, is_nonempty, stream_outcomes, unended}
use Rattle.cobs.specs.Feed.{DecoderAfter, Phase, Idle, phase_after}
use Rattle.cobs.specs.Fields.Decoders.{phase_of}
use Rattle.cobs.specs.Laws.{StreamLaw}
use Rattle.cobs_live.proofs.PartLemmas.{all_ended-append, all_ended-none, length-all_ended}
use Rattle.cobs_live.proofs.ShowLemmas.{shown_from-append, shown_from-none}
use Rattle.cobs_live.proofs.SkipLemmas.{begun-append, begun-none, skips_on-append, skips_on-none}
use Rattle.cobs_live.proofs.TimeLemmas.{extended, IsReadAt-extended, IsTimeline-extended, shown_from-extended}
use Rattle.cobs_live.specs.Counted.{IsTallyOf}
use Rattle.cobs_live.proofs.ReadLemmas.{came-more, joined-append, live-more, live-none}
use Rattle.cobs_live.specs.Reads.{IsLive, Read, ReadsOnce, came, joined}
use Rattle.cobs_live.specs.Live.{HasShownSoFar, HoldsText, IsLiveSoFar, ShowsEnd, ShowsNext}
use Rattle.cobs_live.specs.Seen.{all_ended}
use Rattle.cobs_live.specs.Shown.{shown_from}
use Rattle.cobs_live.specs.Timed.{IsReadAt}
use Rattle.cobs_live.specs.declared.clock.Moment.{Moment}
use Rattle.cobs_live.specs.declared.clock.Times.{Times}
use Rattle.cobs_live.specs.declared.show.Watch.{Watch}
use Rattle.cobs_live.specs.declared.shown.Settings.{Settings}
use Rattle.cobs_live.specs.Watched.{HasShown, HasShownAll, HasWritten, all_outcomes, begun, shown_ended, shown_stream, skips_on, stream_of}
use Rattle.cobs_live.specs.declared.shown.View.{View}
use Rattle.cobs_live.specs.declared.fault.WatchFault.{WatchFault}
use Rattle.cobs_live.specs.declared.fault.WatchFault.TheVariants.{OutOfMemory, OutputClosed, ReadFailed, WriteFailed}
use Rattle.cobs_live.specs.declared.tally.Tally.{Tally}

-- after p, the front of a piece, the decoder is idle if and only if p is empty; so `begun`, which is false if and only
-- if the decoder is idle, says whether p isn't empty
pub begun-after : (p : List ℕ) (n : ℕ) (phase : Phase) (begun : Bool) → phase ≡ phase_after p n → ((begun ≡ false) ↔ (phase ≡ Idle)) → begun ≡ is_nonempty p
unfolding phase_after
begun-after [] n phase begun is idle = idle.1 is
begun-after (b ∷ bs) n phase true is idle = refl
begun-after (b ∷ bs) n phase false is idle = grind arith

-- before the first read, a new watch has shown nothing: no byte was read, and no piece has ended
pub HasShownSoFar-start : (law : StreamLaw) (settings : Settings) (from before : Option (List ℕ)) (watch : Watch) → DecoderAfter watch.message.items (phase_of watch.decoder) []
    → IsTallyOf settings.view.checksum watch.tally [] 0 → watch.clock.last.millis ≡ 0 → length watch.message.items ≡ settings.length → watch.settings.now ≡ settings → watch.skipping ≡ settings.skip_first
    → HasShownSoFar settings from from before before watch
HasShownSoFar-start law settings from before watch idle none first len same skips =
    let no_zero = All-nil (λ (b : ℕ). b ≢ 0) in
    -- no bytes have no outcome
    let no_outcomes : stream_outcomes (begun settings.skip_first []) settings.length ≡ [] = ap (λ (t : List ℕ). stream_outcomes t settings.length) (begun-none settings.skip_first) ∙ law.none [] settings.length no_zero in
    record {
      ended = record {
        bytes = [];
        times = λ number. watch.clock.last;
        -- all pieces have the time of the clock, which is 0
        timeline = record { start = first; rises = λ number. omega arith };
        read = Consumes-nil from;
        -- no text is written, because no piece has ended
        written = rw (all_ended-none (begun settings.skip_first []) settings.length no_outcomes, shown_from-none settings.view (λ number. watch.clock.last) 0) (Appends-nil before);
      };
      -- the decoder has been fed nothing, and nothing is counted
      taken = rw (begun-none settings.skip_first, law.same [] no_zero) idle;
      tallied = rw no_outcomes none;
      timed = refl;
      len = len;
      same = same;
      skips = skips ∙ sym (skips_on-none settings.skip_first);
    }

-- if the reads returned the bytes of the state so far, the text that was written is right for these results
pub HoldsText-so_far : {settings : Settings} {from to before after : Option (List ℕ)} {watch : Watch} (s : HasShownSoFar settings from to before after watch) (came : List (List ℕ)) → joined came ≡ s.ended.bytes → HoldsText settings before came after
HoldsText-so_far s came e = record { times = s.ended.times; timeline = s.ended.timeline; written = rw e s.ended.written }

-- before the first read, a run whose watch has shown nothing is live, for any bytes `from` of the reader; the premise
-- is stated for a reader whose known bytes are empty
pub HasShownSoFar-live : {S : Type 0} (step : S → Read ℕ → S → Type 0) (source : S) {settings : Settings} (from : Option (List ℕ)) {before : Option (List ℕ)} {watch : Watch} → HasShownSoFar settings (Some []) (Some []) before before watch
    → IsLiveSoFar step source source settings from from before before watch
HasShownSoFar-live step source from s =
    -- no byte was read
    let none : s.ended.bytes ≡ [] = sym (append-nil s.ended.bytes) ∙ sym s.ended.read in
    record {
      so_far = record {
        ended = record { bytes = s.ended.bytes; times = s.ended.times; timeline = s.ended.timeline; read = rw none (Consumes-nil from); written = s.ended.written };
        taken = s.taken;
        tallied = s.tallied;
        len = s.len;
        timed = s.timed;
        same = s.same;
        skips = s.skips;
      };
      live = live-none step source _;
      -- no read was made, so there are no results
      given = sym none;
    }

-- a run that is live so far, and its next read, which changes the source from `mid` to `source'` and has the result
-- `bytes`
module _ {S : Type 0} {step : S → Read ℕ → S → Type 0} {source mid source' : S} {settings : Settings} {from to before after : Option (List ℕ)} {watch : Watch} {bytes : List ℕ} where
  -- the run is still live with this read
  abbrev pub live-next : IsLiveSoFar step source mid settings from to before after watch → ReadsOnce step mid source' after bytes → IsLive step source source' (HoldsText settings before)
  live-next s r = live-more s.live r (λ nothing none. HoldsText-so_far s.so_far (came s.live.reads ++ nothing) (joined-append (came s.live.reads) nothing ∙ ap (λ (x : List ℕ). joined (came s.live.reads) ++ x) none ∙ append-nil _ ∙ s.given))

  -- the results of all reads are the results so far, and then those of this read
  pub given-next : (s : IsLiveSoFar step source mid settings from to before after watch) (r : ReadsOnce step mid source' after bytes) → joined (came (live-next s r).reads) ≡ s.so_far.ended.bytes ++ bytes
  given-next s r = came-more s.live.reads r ∙ ap (λ (x : List ℕ). x ++ bytes) s.given

-- a tally for some settings is a tally for equal settings
pub same-tallied : (a b : Settings) (tally : Tally) (outcomes : List Outcome) (read : ℕ) → a ≡ b → IsTallyOf a.view.checksum tally outcomes read → IsTallyOf b.view.checksum tally outcomes read
same-tallied a b tally outcomes read same t = grind arith

-- if a writer's buffer is empty before and after a call, the text that was appended to the contents and the buffer was
-- appended to the contents alone
pub flushed-Appends : (inner inner' : Option (List ℕ)) (held held' text : List ℕ) → held ≡ [] → held' ≡ [] → Appends (append_known inner held) (append_known inner' held') text → Appends inner inner' text
flushed-Appends None inner' held held' text none none' w = tt
flushed-Appends (Some xs) None held held' text none none' w = absurd w
flushed-Appends (Some xs) (Some ys) held held' text none none' w = grind (arith, append-nil)

-- s is the state of a run before its next read
module _ (law : StreamLaw) {settings : Settings} {from to before after : Option (List ℕ)} {watch : Watch} (s : HasShownSoFar settings from to before after watch) where
  -- the stream so far
  abbrev pub opened : List ℕ
  opened = stream_of settings s.ended.bytes

  -- the bytes that `more` bytes add to the stream
  abbrev pub newly : List ℕ → List ℕ
  newly more = begun watch.skipping (xor_each watch.settings.now.sentinel more)

  -- WITH MORE BYTES the stream is the stream so far, and then these new bytes
  pub more-stream : (more : List ℕ) → stream_of settings (s.ended.bytes ++ more) ≡ opened ++ newly more
  more-stream more = grind (arith, map-append, begun-append)

  -- whether bytes are still skipped after `more` bytes: the watch and `more` say the same as all bytes
  pub more-skips : (more : List ℕ) → skips_on watch.skipping (xor_each watch.settings.now.sentinel more) ≡ skips_on settings.skip_first (xor_each settings.sentinel (s.ended.bytes ++ more))
  more-skips more = grind (arith, map-append, skips_on-append)

  -- the unended bytes of the stream with `more` bytes are those of the unended bytes so far and the new bytes
  pub more-left : (more : List ℕ) → unended (stream_of settings (s.ended.bytes ++ more)) ≡ unended (unended opened ++ newly more)
  more-left more = ap unended (more-stream more) ∙ law.left opened (newly more)

  -- the outcomes of the pieces that end in `more` bytes
  abbrev pub new_outcomes : List ℕ → List Outcome
  new_outcomes more = stream_outcomes (unended opened ++ newly more) (length watch.message.items)

  -- all outcomes with `more` bytes are those so far, and then the new ones
  pub more-outcomes : (more : List ℕ) → all_outcomes settings (s.ended.bytes ++ more) ≡ all_outcomes settings s.ended.bytes ++ new_outcomes more
  more-outcomes more =
      ap (λ (t : List ℕ). stream_outcomes t settings.length) (more-stream more)
      ∙ law.cut opened (newly more) settings.length
      ∙ ap (λ (k : ℕ). stream_outcomes opened settings.length ++ stream_outcomes (unended opened ++ newly more) k) (sym s.len)

  -- the pieces that have ended with `more` bytes are those so far, and then the pieces that end in `more`
  pub more-pieces : (more : List ℕ) → all_ended (stream_of settings (s.ended.bytes ++ more)) settings.length
      ≡ all_ended opened settings.length ++ all_ended (unended opened ++ newly more) (length watch.message.items)
  more-pieces more = grind (arith, more-stream, all_ended-append)

  -- a tally of the outcomes so far, the new outcomes and the read bytes is the tally of all bytes with `more`
  pub more-tallied : (tally : Tally) (more : List ℕ)
      → IsTallyOf watch.settings.now.view.checksum tally (all_outcomes settings s.ended.bytes ++ new_outcomes more) (length s.ended.bytes + length more)
      → IsTallyOf settings.view.checksum tally (all_outcomes settings (s.ended.bytes ++ more)) (length (s.ended.bytes ++ more))
  more-tallied tally more t = grind (arith, more-outcomes, length-append, same-tallied)

  -- the number of pieces that have ended so far
  abbrev pub known : ℕ
  known = length (all_outcomes settings s.ended.bytes)

  -- the times of all pieces, if the pieces that end in `more` bytes are read at the time `now`
  abbrev pub more-times : Moment → ℕ → Moment
  more-times now = extended s.ended.times known now

  -- a clock whose last time is the one so far fits these times
  pub more-read : (clock : Times) → clock.last ≡ watch.clock.last → IsReadAt (more-times clock.next) known clock
  more-read clock same = IsReadAt-extended s.ended.times known clock.next clock (same ∙ s.timed) refl

  -- after the new pieces, the clock's last time is the time of the last piece of all
  pub more-timed : (clock : Times) (now : Moment) (more : List ℕ)
      → IsReadAt (more-times now) (length (all_outcomes settings s.ended.bytes ++ new_outcomes more)) clock
      → clock.last ≡ more-times now (length (all_outcomes settings (s.ended.bytes ++ more)))
  more-timed clock now more r = grind (arith, more-outcomes)

  -- the text of the pieces that end in `more` bytes
  abbrev pub new_text : View → Moment → List ℕ → List ℕ
  new_text view now more = shown_from view (more-times now) known (all_ended (unended opened ++ newly more) (length watch.message.items))

  -- the text with `more` bytes is the text so far, and then the new text
  pub more-text : (now : Moment) (more : List ℕ) → shown_stream settings (more-times now) (s.ended.bytes ++ more)
      ≡ shown_stream settings s.ended.times s.ended.bytes ++ new_text settings.view now more
  more-text now more = grind (arith, length-all_ended, more-pieces, shown_from-append, shown_from-extended)

  -- if the new text was written, the text with `more` bytes has been written
  abbrev pub more-ended : {to' after' : Option (List ℕ)} (more : List ℕ) (now : Moment) → watch.clock.last.millis ≤ now.millis → Consumes to to' more
      → Appends after after' (new_text watch.settings.now.view now more)
      → HasWritten (shown_stream settings) from to' before after'
  more-ended {to' = to'} {after' = after'} more now later r written = record {
    bytes = s.ended.bytes ++ more;
    times = more-times now;
    -- `now` isn't before the times so far (`later`), so the times are still a timeline
    timeline = IsTimeline-extended s.ended.times known now s.ended.timeline (omega (arith, later, ap (λ (m : Moment). m.millis) s.timed));
    -- the reads so far consumed the bytes so far, and this read consumed `more`
    read = Consumes-trans from to to' s.ended.bytes more s.ended.read r;
    -- the text so far was written, and then the new text
    written = subst (Appends before after') (sym (more-text now more))
        (Appends-trans before after after' _ _ s.ended.written (subst (λ (w : Settings). Appends after after' (new_text w.view now more)) s.same written));
  }

  -- if no byte follows, and the text that `ShowsEnd` describes was written, the text of the ended input (`shown_ended`)
  -- has been written
  pub shown-ended : {to' after' : Option (List ℕ)} → Consumes to to' [] → ShowsEnd (phase_of watch.decoder) watch.settings.now.view after after' → HasWritten (shown_ended settings) from to' before after'
  shown-ended {to' = to'} {after' = after'} r end =
      -- a piece has begun if and only if the stream has unended bytes
      let is : end.begun ≡ is_nonempty (unended opened) = begun-after (unended opened) (length watch.message.items) (phase_of watch.decoder) end.begun s.taken.phased.phase_is end.idle in
      record {
        bytes = s.ended.bytes;
        times = s.ended.times;
        timeline = s.ended.timeline;
        -- the bytes so far are all bytes that were read
        read = subst (Consumes from to') (append-nil s.ended.bytes) (Consumes-trans from to to' s.ended.bytes [] s.ended.read r);
        -- the text so far was written, and then the text of `ShowsEnd`
        written = Appends-trans before after after' _ _ s.ended.written (rw (s.same, is) at end.written);
      }

  -- a read that failed removed no byte from the input, so it consumed no byte
  pub nothing-read : (to' : Option (List ℕ)) → Keeps to to' → Consumes to to' []
  nothing-read to' kept = Consumes-kept to to to' [] (Consumes-nil to) kept

  -- if the next read failed, and the text of the ended input has been written, `ShowsNext` holds for the fault
  -- `ReadFailed`
  pub next-failed : (to' after' : Option (List ℕ)) (fault : WatchFault) → fault ≡ ReadFailed → HasWritten (shown_ended settings) from to' before after' → ShowsNext settings (Err fault) from to' before after' watch
  next-failed to' after' fault is w = grind arith

  -- if the input is at its end, and the text that `ShowsEnd` describes was written, all of the input has been shown
  -- (`HasShownAll`)
  pub shown-all : {to' after' : Option (List ℕ)} → Consumes to to' [] → IsAtEnd to' → ShowsEnd (phase_of watch.decoder) watch.settings.now.view after after' → HasShownAll settings watch.tally from to' before after'
  unfolding shown-ended
  shown-all r at_end end = record { all = shown-ended r end; tallied = s.tallied; end = at_end }

-- if a message of the same length was written over all items of a vector, the first `len` items of the vector are the
-- message
pub whole-message : (message items : List ℕ) (len : ℕ) → len ≡ length items → length message ≡ length items → take len (message ++ drop (length message) items) ≡ message
whole-message message items len is same = grind (arith, take-append_seam)

-- if the result of a run is this fault, and `HasShown` holds for this fault, it holds for the result
pub shown-fault : (settings : Settings) (from to before after : Option (List ℕ)) (result : Result Tally WatchFault) (fault : WatchFault) → IsErrAnd result (λ found. found ≡ fault)
    → HasShown settings (Err fault) from to before after → HasShown settings result from to before after
shown-fault settings from to before after (Err found) fault e s = grind arith
shown-fault settings from to before after (Ok tally) fault e s = absurd e

-- if the result of a run is a fault of a write, `HasShown` holds, because nothing is claimed about the text then
pub unfinished-fault : (settings : Settings) (from to before after : Option (List ℕ)) (result : Result Tally WatchFault) (fault : WatchFault) → IsErrAnd result (λ found. found ≡ fault)
    → (fault ≢ ReadFailed) × (fault ≢ OutOfMemory) → HasShown settings result from to before after
unfinished-fault settings from to before after (Err ReadFailed) fault e other = grind arith
unfinished-fault settings from to before after (Err OutOfMemory) fault e other = grind arith
unfinished-fault settings from to before after (Err WriteFailed) fault e other = tt
unfinished-fault settings from to before after (Err OutputClosed) fault e other = tt
unfinished-fault settings from to before after (Ok tally) fault e other = absurd e

-- if the result of one read is a fault of a write, `ShowsNext` holds, because nothing is claimed about the text then
pub unfinished-next : (settings : Settings) (from to before after : Option (List ℕ)) (watch : Watch) (result : Result Bool WatchFault)
    (fault : WatchFault) → IsErrAnd result (λ found. found ≡ fault)
    → (fault ≢ ReadFailed) × (fault ≢ OutOfMemory) → ShowsNext settings result from to before after watch
unfinished-next settings from to before after watch (Err ReadFailed) fault e other = grind arith
unfinished-next settings from to before after watch (Err OutOfMemory) fault e other = grind arith
unfinished-next settings from to before after watch (Err WriteFailed) fault e other = tt
unfinished-next settings from to before after watch (Err OutputClosed) fault e other = tt
unfinished-next settings from to before after watch (Ok more) fault e other = absurd e
