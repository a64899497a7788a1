-- Checksums at the end of messages.
use Rattle.std.specs.Prelude.{ℕ, ◌-◌, ◌==◌, Bool, List, ◌++◌, length, take, reverse, Option, Some, None, if◌then◌else◌}
use Rattle.std.specs.Int.{to_le_bytes, w32}
use Rattle.std.specs.List.{ends_with}
use Rattle.cobs_live.specs.Crc.{crc}
use Rattle.cobs_live.specs.declared.checksum.Checksum.{Checksum}

-- the bytes of a checksum, in the checksum's byte order; the argument has the lowest byte first
abbrev pub in_order : Checksum → List ℕ → List ℕ
in_order c bytes = if c.little then bytes else reverse bytes

-- the bytes of the checksum of a message
abbrev pub sum_of : Checksum → List ℕ → List ℕ
sum_of c message = in_order c (take c.params.size (to_le_bytes w32 (crc c.params message)))

-- a message followed by its checksum, or only the message if there is no checksum
abbrev pub with_sum : Option Checksum → List ℕ → List ℕ
with_sum None message = message
with_sum (Some c) message = message ++ sum_of c message

-- the bytes without the checksum at their end
abbrev pub body_of : Checksum → List ℕ → List ℕ
body_of c bytes = take (length bytes - c.params.size) bytes

-- whether the bytes end with the checksum of the bytes before it
abbrev pub is_checked : Checksum → List ℕ → Bool
is_checked c bytes = ends_with (λ a b. a == b) bytes (sum_of c (body_of c bytes))
