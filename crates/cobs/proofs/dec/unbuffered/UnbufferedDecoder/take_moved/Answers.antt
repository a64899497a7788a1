-- Bytes that were moved after the output are fed. If all of them belong to the open block, they stay as they are
-- (`kept`). Otherwise `write_zeros_at_codes` writes a zero over each code among them (`marked`).
use Rattle.std.proofs.Common.{arith}
use Rattle.cobs.proofs.streaming.SpanLemmas.{joint-is, kept, marked}
use Rattle.cobs.proofs.dec.unbuffered.UnbufferedDecoder.take_moved.Goals as goal

-- all bytes belong to the open block
pub returns-then-len-missing-clause-fed : goal.returns-then-len-missing-clause-fed
returns-then-len-missing-clause-fed c before xs room long is = grind (arith, kept)

-- a code is among the bytes, and the last code's block is then the open block
pub returns-clause-fed : goal.returns-clause-fed
returns-clause-fed c before xs room long is =
    let j = c.joint_after-self.ensures in
    -- `marked` needs that `joint` agrees with the last code: it is 0 if and only if this code is 255 (`joint-is`)
    marked c.args.self.now c.args.len c.args.dest.now c.requires.nonzero before xs room long is c.requires.going c.requires.full c.requires.few (omega arith) _ _ _ _ c.write_zeros_at_codes-code.ensures (joint-is _ _ j.full j.other)
