-- Cyclic redundancy checks, as the catalogue of parametrised CRC algorithms defines them.
use Rattle.std.specs.Prelude.{ℕ, zero, suc, ◌≡◌, ◌<◌, ◌-◌, ◌*◌, ◌/◌, ◌^◌, nat_lt, true, false, List, get_or, if◌then◌else◌}
use Rattle.std.specs.Int.{reverse_bits, w8, w32}
use Rattle.std.specs.Int.Bits.{bit_xor}
use Rattle.std.specs.List.{fold}
use Rattle.cobs_live.specs.declared.crc.Crc.{Crc}
use Rattle.cobs_live.specs.declared.crc.Crc.TheVariants.{Crc8, Crc16CcittFalse, Crc16Modbus, Crc16Xmodem, Crc16Kermit, Crc16Arc, Crc32c, Crc32}
use Rattle.cobs_live.specs.declared.crc.Params.{Params}

-- the row of the catalogue for each check that has a name. A register has 32 bits. A polynomial or an initial value
-- with fewer bits is in the high bits.
abbrev pub params_of : Crc → Params
params_of Crc8 = record { size = 1; poly = 0x07 * 2 ^ 24; init = 0; reflected = false; xorout = 0 }
params_of Crc16CcittFalse = record { size = 2; poly = 0x1021 * 2 ^ 16; init = 0xFFFF * 2 ^ 16; reflected = false; xorout = 0 }
params_of Crc16Modbus = record { size = 2; poly = 0x8005 * 2 ^ 16; init = 0xFFFF * 2 ^ 16; reflected = true; xorout = 0 }
params_of Crc16Xmodem = record { size = 2; poly = 0x1021 * 2 ^ 16; init = 0; reflected = false; xorout = 0 }
params_of Crc16Kermit = record { size = 2; poly = 0x1021 * 2 ^ 16; init = 0; reflected = true; xorout = 0 }
params_of Crc16Arc = record { size = 2; poly = 0x8005 * 2 ^ 16; init = 0; reflected = true; xorout = 0 }
params_of Crc32c = record { size = 4; poly = 0x1EDC6F41; init = 0xFFFFFFFF; reflected = true; xorout = 0xFFFFFFFF }
params_of Crc32 = record { size = 4; poly = 0x04C11DB7; init = 0xFFFFFFFF; reflected = true; xorout = 0xFFFFFFFF }

-- a step of the division by a polynomial: the register is shifted, and if the bit that is shifted out is a one, the
-- polynomial is subtracted, which is an XOR here
abbrev pub shifted : ℕ → ℕ → ℕ
shifted poly r = if nat_lt r (2 ^ 31) then 2 * r else bit_xor (2 * r - 2 ^ 32) poly

-- the register after n steps of the division
unfoldable pub after_bits : ℕ → ℕ → ℕ → ℕ
after_bits poly zero r = r
after_bits poly (suc n) r = shifted poly (after_bits poly n r)

-- the register after a byte
abbrev pub after_byte : Params → ℕ → ℕ → ℕ
after_byte p r byte = after_bits p.poly 8 (bit_xor r (2 ^ 24 * (if p.reflected then reverse_bits w8 byte else byte)))

-- the register after some bytes
abbrev pub register : Params → List ℕ → ℕ
register p bytes = fold (after_byte p) p.init bytes

-- THE CHECKSUM of some bytes
abbrev pub crc : Params → List ℕ → ℕ
crc p bytes = bit_xor (if p.reflected then reverse_bits w32 (register p bytes) else register p bytes / 2 ^ (32 - 8 * p.size)) p.xorout

-- the result of 8 steps for a register whose highest 8 bits are a byte, and whose other bits are zeros
abbrev pub word_of : ℕ → ℕ → ℕ
word_of poly byte = after_bits poly 8 (2 ^ 24 * byte)

-- the table of the results of 8 steps, one result for each byte
abbrev pub IsTable : ℕ → List ℕ → Type 0
IsTable poly words = (byte : ℕ) → byte < 256 → get_or words byte 0 ≡ word_of poly byte
