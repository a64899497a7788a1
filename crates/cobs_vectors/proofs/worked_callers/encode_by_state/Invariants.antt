-- The vector is the output for the bytes that the loop has gone through (their number is `byte-index`), and the state
-- is the block that is then open (`IsOpenOutput`).
use Rattle.std.proofs.Common.{take}
use Rattle.cobs.specs.OpenBlock.{IsOpenOutput}
use Rattle.cobs_vectors.proofs.worked_callers.encode_by_state.Given as goal

abbrev pub invariant-by_byte : goal.invariant-by_byte
invariant-by_byte l = IsOpenOutput l.output.items l.state (take l.byte-index l.source)
