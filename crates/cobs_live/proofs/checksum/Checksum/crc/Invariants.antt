-- The register is the result of the division for the bytes that the loop has gone through (`register`).
use Rattle.std.proofs.Common.{◌≡◌, take}
use Rattle.cobs_live.specs.Crc.{register}
use Rattle.cobs_live.proofs.checksum.Checksum.crc.Given as goal

abbrev pub invariant-by_byte : goal.invariant-by_byte
invariant-by_byte l = l.register ≡ register l.self.params (take l.byte-index l.bytes)
