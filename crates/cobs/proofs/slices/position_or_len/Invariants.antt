-- None of the first i bytes equals `byte`.
use Rattle.std.proofs.Common.{◌≢◌, All, take}
use Rattle.cobs.proofs.slices.position_or_len.Given as goal

abbrev pub invariant-by_byte : goal.invariant-by_byte
invariant-by_byte l = All (λ other. other ≢ l.byte) (take l.i l.source)
