-- A stream that is shown, read by read.
use Rattle.std.specs.Prelude.{ℕ, ◌≡◌, ◌↔◌, ◌++◌, Bool, true, false, List, length, Option, Result, Ok, Err}
use Rattle.std.specs.Io.KnownBytes.{Appends}
use Rattle.cobs.specs.Feed.{DecoderAfter, Idle, Phase}
use Rattle.cobs.specs.Fields.Decoders.{phase_of}
use Rattle.cobs.specs.Stream.{Outcome, stream_outcomes, unended}
use Rattle.cobs_live.specs.Counted.{IsTallyOf}
use Rattle.cobs_live.specs.Seen.{all_ended}
use Rattle.cobs_live.specs.Shown.{shown_end, shown_from}
use Rattle.cobs.specs.Sentinel.{xor_each}
use Rattle.cobs_live.specs.Watched.{HasShown, HasWritten, all_outcomes, shown_stream, skips_on, stream_of}
use Rattle.cobs_live.specs.Reads.{IsLive, Read, came, joined}
use Rattle.cobs_live.specs.Timed.{IsReadAt, IsTimeline}
use Rattle.cobs_live.specs.declared.clock.Moment.{Moment}
use Rattle.cobs_live.specs.declared.clock.Times.{Times}
use Rattle.cobs_live.specs.declared.fault.WatchFault.{WatchFault}
use Rattle.cobs_live.specs.declared.show.Watch.{Watch}
use Rattle.cobs_live.specs.declared.shown.Settings.{Settings}
use Rattle.cobs_live.specs.declared.shown.View.{View}
use Rattle.cobs_live.specs.declared.tally.Tally.{Tally}

-- the state of a run between two reads: the text of each piece that ended in the bytes read so far has been written,
-- and the decoder has consumed all of these bytes that aren't skipped. `from` and `to` are the bytes that the input had
-- at the start of the run and has now, if they are known; `before` and `after` are the text in the output at these two
-- times.
pub record HasShownSoFar (settings : Settings) (from to before after : Option (List ℕ)) (watch : Watch) : Type 0 where
  pub ended : HasWritten (shown_stream settings) from to before after
  pub taken : DecoderAfter watch.message.items (phase_of watch.decoder) (unended (stream_of settings ended.bytes))
  pub tallied : IsTallyOf settings.view.checksum watch.tally (all_outcomes settings ended.bytes) (length ended.bytes)
  pub len : length watch.message.items ≡ settings.length
  pub timed : watch.clock.last ≡ ended.times (length (all_outcomes settings ended.bytes))
  pub same : watch.settings.now ≡ settings
  -- whether the run is still skipping bytes, up to the first sentinel
  pub skips : watch.skipping ≡ skips_on settings.skip_first (xor_each settings.sentinel ended.bytes)

-- the text that was written is the text of all pieces that have ended in the bytes that the reads returned
pub record HoldsText (settings : Settings) (before : Option (List ℕ)) (came : List (List ℕ)) (after : Option (List ℕ)) : Type 0 where
  pub times : ℕ → Moment
  pub timeline : IsTimeline times
  pub written : Appends before after (shown_stream settings times (joined came))

-- the state of a run that has been live so far (`IsLive`), and whose reads returned exactly the bytes that are shown
pub record IsLiveSoFar {S : Type 0} (step : S → Read ℕ → S → Type 0) (source source' : S) (settings : Settings) (from to before after : Option (List ℕ)) (watch : Watch) : Type 0 where
  pub so_far : HasShownSoFar settings from to before after watch
  pub live : IsLive step source source' (HoldsText settings before)
  pub given : joined (came live.reads) ≡ so_far.ended.bytes

-- the state after the next read: the run continues, or it has ended
abbrev pub ShowsNext : Settings → Result Bool WatchFault → (from to before after : Option (List ℕ)) → Watch → Type 0
ShowsNext settings (Ok true) from to before after watch = HasShownSoFar settings from to before after watch
ShowsNext settings (Ok false) from to before after watch = HasShown settings (Ok watch.tally) from to before after
ShowsNext settings (Err fault) from to before after watch = HasShown settings (Err fault) from to before after

-- A decoder over n bytes had consumed p, the front of a piece, and has now consumed `bytes` too. The pieces that ended
-- in `bytes` are shown and counted. `gone` has the outcomes of the earlier pieces.
pub record ShowsBytes (view : View) (times : ℕ → Moment) (n : ℕ) (p bytes : List ℕ) (gone : List Outcome) (read : ℕ) (buffer : List ℕ) (phase : Phase) (before after : Option (List ℕ)) (tally : Tally) (clock : Times) : Type 0 where
  pub written : Appends before after (shown_from view times (length gone) (all_ended (p ++ bytes) n))
  pub taken : DecoderAfter buffer phase (unended (p ++ bytes))
  pub tallied : IsTallyOf view.checksum tally (gone ++ stream_outcomes (p ++ bytes) n) read
  pub timed : IsReadAt times (length (gone ++ stream_outcomes (p ++ bytes) n)) clock
  pub len : length buffer ≡ n

-- the input has ended, and the text of `shown_end` is written; `begun` says whether a piece had begun
pub record ShowsEnd (phase : Phase) (view : View) (before after : Option (List ℕ)) : Type 0 where
  pub begun : Bool
  pub idle : (begun ≡ false) ↔ (phase ≡ Idle)
  pub written : Appends before after (shown_end view begun)
