-- The vector has the message bytes of the results for the bytes that the loop has gone through (their number is
-- `byte-index`), and the state is the state after these bytes (`StateAfter`).
use Rattle.std.proofs.Common.{take}
use Rattle.cobs.specs.Table.{StateAfter}
use Rattle.cobs_vectors.proofs.callers.decode_by_state.Given as goal

abbrev pub invariant-by_byte : goal.invariant-by_byte
invariant-by_byte l = StateAfter l.state (take l.byte-index l.frame) l.message.items
