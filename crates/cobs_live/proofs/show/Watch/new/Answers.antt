-- A new watch has shown nothing so far, so it meets the clause `start` of `new`, by `HasShownSoFar-start`.
use Rattle.std.proofs.Common.{refl, arith}
use Rattle.cobs_live.proofs.RunLemmas.{HasShownSoFar-start}
use Rattle.cobs_live.proofs.show.Watch.new.Goals as goal

pub returns : goal.returns
returns c = record {
  start = λ from before.
      HasShownSoFar-start (assumption c.law_9.ensures) c.args.settings.now from before _ (c.new.ensures.after _)
      (c.new-2.ensures.none _ c.is_some.ensures)
      c.new-3.ensures.start (omega (arith, c.in_ok-message.ensures.len, c.in_ok-message.message.ok.0)) refl refl;
}
