-- `read_input` fails after a read in two ways. The bytes so far and those of this read are together more than the limit
-- (`HasRead-too_long`), or there was no memory for them (`HasRead-no_memory`).
use Rattle.std.proofs.Common.{◌++◌, take, arith, length-append}
use Rattle.cobs_tool.proofs.InputLemmas.{Consumes-append, HasRead-too_long, HasRead-no_memory}
use Rattle.cobs_tool.proofs.input.read_input.Goals as goal

-- the input is too long
pub returns-then-count-len-clause-read : goal.returns-then-count-len-clause-read
returns-then-count-len-clause-read g c =
    -- the bytes of the earlier reads, and the bytes of this read
    let before = c.by_read.bytes.items in
    let more = take c.in-Ok.count c.read.new.buf in
    HasRead-too_long _ _ (before ++ more) (Consumes-append _ _ _ _ _ c.by_read.invariant.read_so_far c.in-Ok.ensures.bytes.0)
    (omega (arith, length-append before more, c.in-Ok.ensures.bound, c.by_read.bytes.ok.0))
    (omega (arith, length-append before more, c.in-Ok.ensures.bound, c.by_read.bytes.ok.0, c.read.auto.buf))

-- memory ran out
pub returns-in_err-extend_from_slice-clause-read :
    goal.returns-in_err-extend_from_slice-clause-read
returns-in_err-extend_from_slice-clause-read g c =
    -- the bytes of the earlier reads, and the bytes of this read
    let before = c.by_read.bytes.items in
    let more = take c.in-Ok.count c.read.new.buf in
    HasRead-no_memory _ _ (before ++ more) _ (Consumes-append _ _ _ _ _ c.by_read.invariant.read_so_far c.in-Ok.ensures.bytes.0)
    (omega (arith, length-append before more, c.in-Ok.ensures.bound, c.by_read.bytes.ok.0)) c.from_residual.ensures.1
