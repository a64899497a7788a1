-- The text so far is the text that `show_next` shows, read after read. At a fault, the text is the one that `HasShown`
-- describes for this fault (`shown-fault`, `unfinished-fault`). After the greatest number of reads, the text of the end
-- of the input is added (`shown-ended`).
use Rattle.std.proofs.Common.{rules, [], Some, arith}
use Rattle.std.proofs.KnownBytes.{Consumes-nil}
use Rattle.std.proofs.lemmas.Grind.{common_steps}
use Rattle.cobs_live.proofs.ReadLemmas.{live-none}
use Rattle.cobs_live.proofs.RunLemmas.{HasShownSoFar-live, shown-ended, shown-fault, unfinished-fault}
use Rattle.cobs_live.proofs.show.run_show.Goals as goal

-- before the first read, the new watch has shown nothing, and the run is live
pub by_read-init : goal.by_read-init
by_read-init g c = record { live = HasShownSoFar-live _ _ _ (c.in_ok-watch.ensures.start (Some []) _); flushed = c.requires.flushed; chunk = c.in_ok-chunk.ensures.len }

-- `show_next` returned a fault, and the text is the one that `HasShown` describes for this fault
pub returns-in_err-next-clause-shown : goal.returns-in_err-next-clause-shown
returns-in_err-next-clause-shown g c = shown-fault _ _ _ _ _ _ c.in_err-next.field-0.0 (search rules) (c.in_err-next.ensures.shown _ _ _ c.by_read.invariant.live.so_far)

-- `show_next` returned a fault, and the run was live at each read
pub returns-in_err-next-clause-live : goal.returns-in_err-next-clause-live
returns-in_err-next-clause-live g c = c.in_err-next.ensures.live _ _ _ _ c.by_read.invariant.live

-- the input has ended, and everything was shown
pub returns-then-not-branch-clause-shown : goal.returns-then-not-branch-clause-shown
returns-then-not-branch-clause-shown g c = rw c.if-not-branch.true at (c.in_ok-next.ensures.shown _ _ _ c.by_read.invariant.live.so_far)

-- the input has ended, and the run was live at each read
pub returns-then-not-branch-clause-live : goal.returns-then-not-branch-clause-live
returns-then-not-branch-clause-live g c = c.in_ok-next.ensures.live _ _ _ _ c.by_read.invariant.live

-- `show_next` showed the bytes of one read, and the run goes on
pub by_read-preserved : goal.by_read-preserved
by_read-preserved g c = record {
  live = c.in_ok-next.ensures.goes_on c.if-not-branch.false _ _ _ _ c.by_read.invariant.live;
  flushed = c.in_ok-next.ensures.flushed;
  chunk = c.by_read.invariant.chunk;
}

-- the greatest number of reads was made, and then a write failed
pub returns-in_err-end-clause-shown : goal.returns-in_err-end-clause-shown
returns-in_err-end-clause-shown g c = unfinished-fault _ _ _ _ _ _ c.in_err-end.field-0.0 (search rules) c.in_err-end.ensures.fault

-- the greatest number of reads was made, and the text of the ended input was written
pub returns-clause-shown : goal.returns-clause-shown
returns-clause-shown g c = shown-ended (assumption c.law_9.ensures) c.by_read.invariant.live.so_far (Consumes-nil _) c.in_ok-end.ensures.shown

-- the greatest number of reads was made, and the run was live at each read, whether or not the last write failed
pub returns-in_err-end-clause-live : goal.returns-in_err-end-clause-live
returns-in_err-end-clause-live g c = c.by_read.invariant.live.live

pub returns-clause-live : goal.returns-clause-live
returns-clause-live g c = c.by_read.invariant.live.live

-- memory ran out: nothing was read, and nothing was written; so the run is live, because there was no read
-- (`live-none`)
pub returns-in_err-chunk-clause-shown : goal.returns-in_err-chunk-clause-shown
returns-in_err-chunk-clause-shown g c = grind (arith, common_steps)

pub returns-in_err-chunk-clause-live : goal.returns-in_err-chunk-clause-live
returns-in_err-chunk-clause-live g c = live-none _ _ _

pub returns-in_err-watch-clause-shown : goal.returns-in_err-watch-clause-shown
returns-in_err-watch-clause-shown g c = grind (arith, common_steps)

pub returns-in_err-watch-clause-live : goal.returns-in_err-watch-clause-live
returns-in_err-watch-clause-live g c = live-none _ _ _
