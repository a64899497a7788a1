-- The steps are fed one after another (`FeedsQuietly-more`); each step gets the bytes that are left, XORed with the
-- sentinel (`rest_xored`).
use Rattle.std.proofs.Common.{◌≢◌, arith, length-drop}
use Rattle.std.proofs.lemmas.List.Elements.{All-drop}
use Rattle.cobs.specs.Sentinel.{xor_each}
use Rattle.cobs.proofs.format.SentinelLemmas.{rest_xored}
use Rattle.cobs.proofs.streaming.SpanLemmas.{FeedsQuietly-more}
use Rattle.cobs.proofs.dec.unbuffered.UnbufferedDecoder.take_blocks.Goals as goal

-- none of the bytes that are left is a zero
pub take_part-step-requires-clause-nonzero : goal.take_part-step-requires-clause-nonzero
take_part-step-requires-clause-nonzero c =
    rw (rest_xored c.args.bytes.now c.args.sentinel c.by_step.taken) (All-drop (λ b. b ≢ 0) c.by_step.taken (xor_each c.args.sentinel c.args.bytes.now) c.requires.nonzero)

-- the bytes of this step are fed after those of the steps so far
pub by_step-preserved : goal.by_step-preserved
by_step-preserved c = grind (arith, length-drop, FeedsQuietly-more, rest_xored)
