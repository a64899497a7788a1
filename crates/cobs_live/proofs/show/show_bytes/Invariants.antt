-- The pieces that end in the first `at` bytes are shown (`ShowsBytes`), in the output with the composed text. This
-- holds for each front p of a piece that may have been fed before the call, and for each number of earlier outcomes and
-- bytes. The loop ends, because each iteration takes at least one byte.
use Rattle.std.proofs.Common.{◌≡◌, ◌≤◌, ◌-◌, ℕ, List, length, take}
use Rattle.cobs.specs.Feed.{DecoderAfter}
use Rattle.cobs.specs.Fields.Decoders.{phase_of}
use Rattle.cobs.specs.Stream.{Outcome}
use Rattle.cobs_live.specs.Composed.{with_text}
use Rattle.cobs_live.specs.Counted.{IsTallyOf}
use Rattle.cobs_live.specs.Live.{ShowsBytes}
use Rattle.cobs_live.specs.Timed.{IsReadAt}
use Rattle.cobs_live.specs.declared.clock.Moment.{Moment}
use Rattle.cobs_live.proofs.show.show_bytes.Given as goal

abbrev pub invariant-by_part : goal.invariant-by_part
invariant-by_part g l = record {
  within : l.at ≤ length l.bytes;
  len : length l.message ≡ length l.fn.message;
  so_far : (p : List ℕ) → DecoderAfter l.fn.message (phase_of l.fn.decoder) p → (gone : List Outcome) (read : ℕ) → IsTallyOf l.view.checksum l.fn.tally gone read →
      (times : ℕ → Moment) → IsReadAt times (length gone) l.fn.clock → ShowsBytes l.view times (length l.fn.message) p (take l.at l.bytes) gone read l.message (phase_of l.decoder) (g.W.Write.contents l.fn.output) (with_text (g.W.Write.contents l.output) l.composed) l.tally l.clock;
}

abbrev pub decreases-by_part : goal.decreases-by_part
decreases-by_part g l = length l.bytes - l.at
