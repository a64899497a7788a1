-- `take_blocks` feeds the bytes before the first sentinel. If it stops before the sentinel, there is no room for the next
-- byte's output.
use Rattle.std.proofs.Common.{length-take, arith}
use Rattle.std.proofs.lemmas.Bool.{cases_lt}
use Rattle.std.proofs.lemmas.List.{get_or-take, take-take}
use Rattle.cobs.proofs.bytes.ListLemmas.{part-nonzero}
use Rattle.cobs.proofs.decoding.SourceSteps.{xor_no_zero}
use Rattle.cobs.proofs.format.SentinelLemmas.{coded_zero, front_xored}
use Rattle.cobs.proofs.dec.unbuffered.UnbufferedDecoder.take_run.Goals as goal

-- the bytes before the first sentinel have no sentinel
pub take_blocks-requires-clause-nonzero : goal.take_blocks-requires-clause-nonzero
take_blocks-requires-clause-nonzero c = grind (arith, xor_no_zero)

-- the bytes that `take_blocks` took are a front of all bytes
pub returns-clause-fed : goal.returns-clause-fed
returns-clause-fed c = grind (arith, length-take, front_xored, take-take)

-- so none of them is the sentinel
pub returns-clause-nonzero : goal.returns-clause-nonzero
returns-clause-nonzero c =
    let e = c.position_or_len-end.ensures in
    let none = rw front_xored at (xor_no_zero _ _ _ e.within e.before e.stop) in
    part-nonzero 0 _ _ _ none (omega (arith, c.take_blocks.ensures.within, length-take c.position_or_len-end.result c.args.bytes.now))

-- the next byte is the first sentinel, or it has no room
pub returns-clause-stop : goal.returns-clause-stop
returns-clause-stop c more nz = grind (arith, length-take, cases_lt, front_xored, get_or-take, coded_zero)
