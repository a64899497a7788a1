-- The bytes are a frame if and only if the bytes from `read` on are a frame, since only whole blocks precede `read`
-- (`BlocksBehind`).
use Rattle.std.proofs.Common.{◌-◌, ◌≤◌, drop, length}
use Rattle.cobs.proofs.format.KindLemmas.{BlocksBehind}
use Rattle.cobs.proofs.dec.kind.frame_kind.Given as goal

abbrev pub invariant-by_block : goal.invariant-by_block
invariant-by_block l = (l.read ≤ length l.bytes) × BlocksBehind l.bytes (drop l.read l.bytes) l.after_full

-- each block lowers the number of bytes to read
abbrev pub decreases-by_block : goal.decreases-by_block
decreases-by_block l = length l.bytes - l.read
