-- Each try adds one read to the earlier reads, which had no result (`once-more`). The call ends with the first read
-- that isn't interrupted, or after the greatest number of tries. So at most the last read has a result.
use Rattle.std.proofs.Common.{refl, arith}
use Rattle.std.proofs.KnownBytes.{Keeps-refl, Keeps-trans}
use Rattle.cobs_live.proofs.ReadLemmas.{once-more, once-none}
use Rattle.cobs_live.proofs.show.read_chunk.Goals as goal

-- before the first try, no read was made
pub by_try-init : goal.by_try-init
by_try-init g c = record { once = once-none _ _ _; kept = Keeps-refl _; len = refl }

-- a read was interrupted: it returned nothing, and took no byte of the input
pub by_try-preserved : goal.by_try-preserved
by_try-preserved g c = record {
  once = once-more _ c.by_try.invariant.once c.in-Err.ensures.step c.requires.flushed refl;
  kept = Keeps-trans _ _ _ c.by_try.invariant.kept c.in-Err.ensures.bytes;
  len = omega arith;
}

-- a read succeeded
pub returns-in-Ok-clause-once : goal.returns-in-Ok-clause-once
returns-in-Ok-clause-once g c = once-more _ c.by_try.invariant.once c.in-Ok.ensures.step c.requires.flushed refl

-- a read failed for another reason than an interrupt
pub returns-then-ne-clause-once : goal.returns-then-ne-clause-once
returns-then-ne-clause-once g c = once-more _ c.by_try.invariant.once c.in-Err.ensures.step c.requires.flushed refl
