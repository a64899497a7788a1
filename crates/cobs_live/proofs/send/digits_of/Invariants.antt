-- The digits so far are those of the bytes that the loop has gone through (`digits_of`).
use Rattle.std.proofs.Common.{◌≡◌, take}
use Rattle.cobs_live.specs.Sent.{digits_of}
use Rattle.cobs_live.proofs.send.digits_of.Given as goal

abbrev pub invariant-by_byte : goal.invariant-by_byte
invariant-by_byte l = l.digits.items ≡ digits_of (take l.byte-index l.text)
