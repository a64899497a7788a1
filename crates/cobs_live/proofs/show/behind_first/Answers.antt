-- The bytes from index i on are one byte and then the bytes from the next index on, so each step of the loop passes one
-- byte, which isn't a zero. The first zero ends the skipping, and without a zero all bytes are skipped.
use Rattle.std.proofs.Common.{arith}
use Rattle.std.proofs.lemmas.Grind.{common_steps}
use Rattle.cobs_live.proofs.show.behind_first.Goals as goal

-- before the first byte
pub loop-i-init : goal.loop-i-init
loop-i-init c = grind (arith, common_steps)

-- the byte isn't a zero
pub loop-i-preserved : goal.loop-i-preserved
loop-i-preserved c = grind (arith, common_steps)

-- the byte is a zero
pub returns-then-byte-eq0 : goal.returns-then-byte-eq0
returns-then-byte-eq0 c = grind (arith, common_steps)

-- no byte is a zero
pub returns : goal.returns
returns c = grind (arith, common_steps)
