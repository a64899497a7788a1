-- Each iteration feeds the bytes that `take_run` takes (`ran`; they are called the run here), and then the byte
-- after the run. This byte continues the call (`Pushed-more`), or ends it with a message (`pushed_some`) or an error
-- (`pushed_error`). After the last byte the call ends with neither of the two (`pushed_none`).
use Rattle.std.proofs.Common.{◌+◌, ◌∙◌, ap, arith, Ok, length-take}
use Rattle.cobs.specs.Fields.Decoders.{phase_of}
use Rattle.cobs.proofs.streaming.PushLemmas.{Pushed, Pushed-start, Pushed-more, pushed_fed, pushed_none, pushed_some, pushed_error}
use Rattle.std.proofs.lemmas.List.{take_rest}
use Rattle.cobs.proofs.bytes.XoredLemmas.{xor_each-zero}
use Rattle.cobs.proofs.dec.unbuffered.UnbufferedDecoder.push.Goals as goal
use Rattle.cobs.proofs.dec.unbuffered.UnbufferedDecoder.push.Goals.{After-take_run-at}

-- before the first byte
pub by_run-init : goal.by_run-init
by_run-init c = record { within = omega arith; pushed = Pushed-start _ _ _ }

-- after `take_run` of the iteration, the push continues: each of the bytes so far returned `Ok(None)`
ran : (c : After-take_run-at) → Pushed c.args.dest.now (phase_of c.args.self.now) c.take_run-at.new.dest (phase_of c.take_run-at.new.self) c.args.bytes.now (c.by_run.at + c.take_run-at.result)
ran c = pushed_fed c.args.bytes.now _ _ (grind (arith, length-take)) c.by_run.invariant.pushed (rw (take_rest, xor_each-zero) at c.take_run-at.ensures.fed)

-- the byte after the run returns `Ok(None)`
pub by_run-preserved-in-Ok-None : goal.by_run-preserved-in-Ok-None
by_run-preserved-in-Ok-None c = record {
  within = omega arith;
  -- the bytes up to the end of the run returned `Ok(None)` (`ran`), and so did this byte
  pushed = Pushed-more _ _ c.if-at-bytes.true (ran (goal.at.by_run-preserved-in-Ok-None c).After-take_run-at) c.feed.ensures.feeds (c.in-Ok-None.is ∙ ap Ok c.in-Ok-None.field-0-is);
}

-- no byte follows the run
pub by_run-preserved : goal.by_run-preserved
by_run-preserved c = record {
  within = grind (arith, length-take);
  pushed = ran (goal.at.by_run-preserved c).After-take_run-at;
}

-- the byte after the run ends the push with a message
pub returns-in-Ok-Some : goal.returns-in-Ok-Some
returns-in-Ok-Some c = record { pushes = pushed_some _ _ c.if-at-bytes.true (ran (goal.at.returns-in-Ok-Some c).After-take_run-at) c.feed.ensures.feeds _ (c.in-Ok-Some.is ∙ ap Ok c.in-Ok-Some.field-0-is) }

-- the byte after the run ends the push with an error
pub returns-in-Err : goal.returns-in-Err
returns-in-Err c = record { pushes = pushed_error _ _ c.if-at-bytes.true (ran (goal.at.returns-in-Err c).After-take_run-at) c.feed.ensures.feeds _ c.in-Err.is }

-- all bytes are fed
pub returns : goal.returns
returns c = record { pushes = pushed_none _ _ (omega arith) c.by_run.invariant.pushed }
