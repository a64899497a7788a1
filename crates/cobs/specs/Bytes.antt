-- Bytes without zeros, and bytes XORed with one byte.
use Rattle.std.specs.Prelude.{◌≢◌, ℕ, List, map, bit_xor, All}

-- no byte of the list is 0
abbrev pub HasNoZero : List ℕ → Type 0
HasNoZero bytes = All (λ byte. byte ≢ 0) bytes

-- each byte XORed with s
abbrev pub xor_each : ℕ → List ℕ → List ℕ
xor_each s bytes = map (λ byte. bit_xor byte s) bytes
