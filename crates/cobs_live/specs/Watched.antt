-- The bytes that a run has read, and the text that it has written for them.
use Rattle.std.specs.Prelude.{ℕ, ◌≡◌, ◌≢◌, ◌⊎◌, ◌==◌, Bool, true, false, List, [], ◌∷◌, ◌++◌, length, Option, Result, Ok, Err, if◌then◌else◌}
use Rattle.std.specs.Io.KnownBytes.{Appends, Consumes, IsAtEnd, Keeps}
use Rattle.std.specs.IoError.{error_kind}
use Rattle.std.specs.declared.io.Error.{Error}
use Rattle.std.specs.declared.io.ErrorKind.TheVariants.{BrokenPipe}
use Rattle.cobs.specs.Sentinel.{xor_each}
use Rattle.cobs.specs.Stream.{Outcome, is_nonempty, stream_outcomes, unended}
use Rattle.cobs_live.specs.Counted.{IsTallyOf}
use Rattle.cobs_live.specs.Seen.{all_ended}
use Rattle.cobs_live.specs.Shown.{shown_end, shown_from}
use Rattle.cobs_live.specs.Timed.{IsTimeline}
use Rattle.cobs_live.specs.declared.clock.Moment.{Moment}
use Rattle.cobs_live.specs.declared.fault.WatchFault.{WatchFault}
use Rattle.cobs_live.specs.declared.fault.WatchFault.TheVariants.{ReadFailed, WriteFailed, OutputClosed, OutOfMemory}
use Rattle.cobs_live.specs.declared.shown.Settings.{Settings}
use Rattle.cobs_live.specs.declared.tally.Tally.{Tally}

-- all bytes, or only the bytes after the first zero if the flag is set
abbrev pub begun : Bool → List ℕ → List ℕ
begun false t = t
begun true [] = []
begun true (byte ∷ bytes) = if byte == 0 then bytes else begun true bytes

-- whether bytes are still skipped after these bytes; the flag says whether they were skipped before
abbrev pub skips_on : Bool → List ℕ → Bool
skips_on false t = false
skips_on true [] = true
skips_on true (byte ∷ bytes) = if byte == 0 then false else skips_on true bytes

-- the bytes of an input as a stream of frames for the sentinel 0. If `skip_first` is set, the stream begins after the
-- first sentinel.
abbrev pub stream_of : Settings → List ℕ → List ℕ
stream_of settings bytes = begun settings.skip_first (xor_each settings.sentinel bytes)

-- the outcomes of all pieces that have ended in these bytes
abbrev pub all_outcomes : Settings → List ℕ → List Outcome
all_outcomes settings bytes = stream_outcomes (stream_of settings bytes) settings.length

-- THE TEXT OF A STREAM: the text of the pieces that have ended in these bytes
abbrev pub shown_stream : Settings → (ℕ → Moment) → List ℕ → List ℕ
shown_stream settings times bytes = shown_from settings.view times 0 (all_ended (stream_of settings bytes) settings.length)

-- the text of a stream that has ended
abbrev pub shown_ended : Settings → (ℕ → Moment) → List ℕ → List ℕ
shown_ended settings times bytes = shown_stream settings times bytes ++ shown_end settings.view (is_nonempty (unended (stream_of settings bytes)))

-- Bytes were read, and their pieces were read at `times`. A writer's contents grew by the text of these bytes, from
-- `before` to `after`. The reader's unread bytes were `from` and are now `to`, if they are known.
pub record HasWritten (text : (ℕ → Moment) → List ℕ → List ℕ) (from to before after : Option (List ℕ)) : Type 0 where
  pub bytes : List ℕ
  pub times : ℕ → Moment
  pub timeline : IsTimeline times
  pub read : Consumes from to bytes
  pub written : Appends before after (text times bytes)

-- the text of everything that was read is written, and the tally counts its pieces and bytes
pub record HasShownAll (settings : Settings) (tally : Tally) (from to before after : Option (List ℕ)) : Type 0 where
  pub all : HasWritten (shown_ended settings) from to before after
  pub tallied : IsTallyOf settings.view.checksum tally (all_outcomes settings all.bytes) (length all.bytes)
  pub end : IsAtEnd to

-- the effects of a run of `show` with this result. At the end of the input, and also if a read failed, the text of all
-- pieces that were read has been written, followed by the text of `shown_end`. If memory ran out, nothing was read or
-- written. After a failed write nothing is claimed: part of the text may have been written.
abbrev pub HasShown : Settings → Result Tally WatchFault → (from to before after : Option (List ℕ)) → Type 0
HasShown settings (Ok tally) from to before after = HasShownAll settings tally from to before after
HasShown settings (Err ReadFailed) from to before after = HasWritten (shown_ended settings) from to before after
HasShown settings (Err OutOfMemory) from to before after = Keeps from to × Keeps before after
HasShown settings (Err WriteFailed) from to before after = Unit {0}
HasShown settings (Err OutputClosed) from to before after = Unit {0}

-- the output's buffer is empty, unless a write to the output failed
abbrev pub IsFlushed : {A : Type 0} → Result A WatchFault → List ℕ → Type 0
IsFlushed (Ok value) held = held ≡ []
IsFlushed (Err ReadFailed) held = held ≡ []
IsFlushed (Err OutOfMemory) held = held ≡ []
IsFlushed (Err WriteFailed) held = Unit {0}
IsFlushed (Err OutputClosed) held = Unit {0}

-- the fault for a write that failed: `OutputClosed` if nobody reads the output any more (`BrokenPipe`), and otherwise
-- `WriteFailed`
abbrev pub IsWriteFault : Error → WatchFault → Type 0
IsWriteFault error fault = ((error_kind error ≡ BrokenPipe) × (fault ≡ OutputClosed)) ⊎ ((error_kind error ≢ BrokenPipe) × (fault ≡ WriteFailed))
