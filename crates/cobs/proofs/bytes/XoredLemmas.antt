-- Lemmas on bytes that are XORed with the sentinel. XOR with 0 changes no byte (`xor_each-zero`), and a second XOR with
-- the same byte restores a byte (`xor_twice`).
use Rattle.std.proofs.Common.{◌≡◌, ℕ, List, [], ◌∷◌, bit_xor, refl, arith}
use Rattle.std.specs.Int.Bits.{xor_assoc, xor_self, xor_zero_r}
use Rattle.cobs.specs.Bytes.{xor_each}

-- XOR with 0 changes nothing
pub xor_each-zero : (bytes : List ℕ) → xor_each 0 bytes ≡ bytes
xor_each-zero [] = refl
xor_each-zero (b ∷ bytes) = grind (arith, xor_zero_r, (xor_each-zero bytes))

-- XOR with the same byte twice changes nothing
pub xor_twice : (b s : ℕ) → bit_xor (bit_xor b s) s ≡ b
xor_twice b s = grind (arith, xor_assoc, xor_self, xor_zero_r)
