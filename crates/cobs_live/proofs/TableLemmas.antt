-- Lemmas on a check that is computed with a table (`table_step`, the main lemma). A step of the XOR of two registers is
-- the XOR of the steps of each (`shifted-xor`), and so are n steps (`after_bits-xor`). So the steps of the high byte,
-- which the table has, and of the low bits of a register can be computed separately.
use Rattle.std.proofs.Common.{◌≡◌, ◌<◌, ◌+◌, ◌-◌, ◌*◌, ◌/◌, ◌%◌, ℕ, zero, suc, refl, sym, ap, ◌∙◌, arith, subst}
use Rattle.std.specs.Prelude.{◌^◌}
use Rattle.std.specs.Int.Bits.{bit_xor, xor_assoc, xor_shifted, xor_zero_r}
use Rattle.std.proofs.lemmas.Nat.{xor_block, xor_comm, xor_lt}
use Rattle.std.proofs.lemmas.Grind.{common_steps}
use Rattle.std.proofs.Math.Nat.{mul_assoc, pow-suc}
use Rattle.cobs_live.specs.Crc.{after_bits, shifted}

-- a step of a register whose highest bit is q and whose other bits are r: r is shifted, and the polynomial is XORed in
-- if q is 1
stepped : (poly q r : ℕ) → q < 2 → r < 2 ^ 31 → shifted poly (q * 2 ^ 31 + r) ≡ bit_xor (r * 2) (q * poly)
stepped poly zero r _ h = grind (arith, common_steps)
stepped poly (suc zero) r _ h = grind (arith, common_steps)
stepped poly (suc (suc q)) r h _ = absurd (omega arith)

-- the product of the XOR of two bits and a polynomial is the XOR of the two products
picked : (poly p q : ℕ) → p < 2 → q < 2 → bit_xor p q * poly ≡ bit_xor (p * poly) (q * poly)
picked poly zero q _ _ = grind (arith, common_steps)
picked poly (suc zero) zero _ _ = grind (arith, common_steps)
picked poly (suc zero) (suc zero) _ _ = grind (arith, common_steps)
picked poly (suc zero) (suc (suc q)) _ h = absurd (omega arith)
picked poly (suc (suc p)) q h _ = absurd (omega arith)

-- a shift of the XOR of two numbers is the XOR of the two shifts
doubled : (r s : ℕ) → bit_xor r s * 2 ≡ bit_xor (r * 2) (s * 2)
doubled r s = grind (arith, xor_block 1 r s 0 0 (omega arith) (omega arith))

-- the XOR of four numbers, with the two middle numbers exchanged
mixed : (a b c d : ℕ) → bit_xor (bit_xor a b) (bit_xor c d) ≡ bit_xor (bit_xor a c) (bit_xor b d)
mixed a b c d = grind (arith, xor_assoc, xor_comm)

-- `shifted-xor` for two registers that are given by their highest bits p and q and their other bits r and s
shifted-parts : (poly p r q s : ℕ) → p < 2 → r < 2 ^ 31 → q < 2 → s < 2 ^ 31
    → shifted poly (bit_xor (p * 2 ^ 31 + r) (q * 2 ^ 31 + s)) ≡ bit_xor (shifted poly (p * 2 ^ 31 + r)) (shifted poly (q * 2 ^ 31 + s))
shifted-parts poly p r q s hp hr hq hs =
    ap (shifted poly) (xor_block 31 p q r s hr hs) ∙ stepped poly (bit_xor p q) (bit_xor r s) (xor_lt 1 p q hp hq) (xor_lt 31 r s hr hs)
    ∙ ap (bit_xor (bit_xor r s * 2)) (picked poly p q hp hq) ∙ ap (λ (x : ℕ). bit_xor x (bit_xor (p * poly) (q * poly))) (doubled r s)
    ∙ mixed (r * 2) (s * 2) (p * poly) (q * poly)
    ∙ sym (ap (bit_xor (shifted poly (p * 2 ^ 31 + r))) (stepped poly q s hq hs) ∙ ap (λ (x : ℕ). bit_xor x (bit_xor (s * 2) (q * poly))) (stepped poly p r hp hr))

-- a step of the XOR of two registers is the XOR of the two steps
shifted-xor : (poly a b : ℕ) → a < 2 ^ 32 → b < 2 ^ 32 → shifted poly (bit_xor a b) ≡ bit_xor (shifted poly a) (shifted poly b)
shifted-xor poly a b ha hb =
    -- each register as its highest bit and its other bits
    let a-is : a / 2 ^ 31 * 2 ^ 31 + a % 2 ^ 31 ≡ a = omega arith in
    let b-is : b / 2 ^ 31 * 2 ^ 31 + b % 2 ^ 31 ≡ b = omega arith in
    subst (λ (x : ℕ). shifted poly (bit_xor x b) ≡ bit_xor (shifted poly x) (shifted poly b)) a-is
    (subst (λ (y : ℕ). shifted poly (bit_xor (a / 2 ^ 31 * 2 ^ 31 + a % 2 ^ 31) y) ≡ bit_xor (shifted poly (a / 2 ^ 31 * 2 ^ 31 + a % 2 ^ 31)) (shifted poly y)) b-is
    (shifted-parts poly (a / 2 ^ 31) (a % 2 ^ 31) (b / 2 ^ 31) (b % 2 ^ 31) (omega arith) (omega arith) (omega arith) (omega arith)))

-- after a step, a register still has 32 bits
shifted-lt : (poly r : ℕ) → poly < 2 ^ 32 → r < 2 ^ 32 → shifted poly r < 2 ^ 32
shifted-lt poly r hp hr = grind (arith, common_steps, xor_lt 32 (2 * r - 2 ^ 32) poly)

-- after n steps, a register still has 32 bits
after_bits-lt : (poly n r : ℕ) → poly < 2 ^ 32 → r < 2 ^ 32 → after_bits poly n r < 2 ^ 32
unfolding after_bits
after_bits-lt poly zero r hp hr = hr
after_bits-lt poly (suc n) r hp hr = grind (arith, shifted-lt, (after_bits-lt poly n r hp hr))

-- n steps of the XOR of two registers are the XOR of n steps of each
after_bits-xor : (poly n a b : ℕ) → poly < 2 ^ 32 → a < 2 ^ 32 → b < 2 ^ 32
    → after_bits poly n (bit_xor a b) ≡ bit_xor (after_bits poly n a) (after_bits poly n b)
unfolding after_bits
after_bits-xor poly zero a b hp ha hb = refl
after_bits-xor poly (suc n) a b hp ha hb = grind (arith, shifted-xor, after_bits-lt, (after_bits-xor poly n a b hp ha hb))

-- if the highest bit of a register is 0, a step only shifts the register
low_step : (poly r : ℕ) → r * 2 < 2 ^ 32 → shifted poly r ≡ r * 2
low_step poly r h = grind (arith, common_steps)

-- if the highest n bits of a register are 0, n steps only shift the register
after_bits-low : (poly n r : ℕ) → r * 2 ^ n < 2 ^ 32 → after_bits poly n r ≡ r * 2 ^ n
unfolding after_bits
after_bits-low poly zero r h = omega arith
after_bits-low poly (suc n) r h =
    -- n steps shift the register by n bits (`so_far`), and one more step shifts it by one bit more
    let more : r * 2 ^ suc n ≡ r * 2 ^ n * 2 = ap (λ (x : ℕ). r * x) (pow-suc 2 n) ∙ sym (mul_assoc r (2 ^ n) 2) in
    let so_far : after_bits poly n r ≡ r * 2 ^ n = after_bits-low poly n r (omega arith) in
    ap (shifted poly) so_far ∙ low_step poly (r * 2 ^ n) (omega arith) ∙ sym more

-- if a byte is XORed to the high byte of a register, the result is the XOR of the new high byte and of the register's
-- low 24 bits
parted : (r b : ℕ) → b < 2 ^ 8 → bit_xor r (2 ^ 24 * b) ≡ bit_xor (2 ^ 24 * bit_xor (r / 2 ^ 24) b) (r % 2 ^ 24)
parted r b hb =
    -- the high byte and the low 24 bits of the register; `r-is` and `b-is` write the register and the byte in these two
    -- parts
    let high : ℕ = r / 2 ^ 24 in
    let low : ℕ = r % 2 ^ 24 in
    let r-is : r ≡ high * 2 ^ 24 + low = omega arith in
    let b-is : 2 ^ 24 * b ≡ b * 2 ^ 24 + 0 = omega arith in
    ap (λ (x : ℕ). bit_xor x (2 ^ 24 * b)) r-is ∙ ap (bit_xor (high * 2 ^ 24 + low)) b-is ∙ xor_block 24 high b low 0 (omega arith) (omega arith)
    ∙ ap (λ (x : ℕ). bit_xor high b * 2 ^ 24 + x) (xor_zero_r low) ∙ sym (xor_shifted (bit_xor high b) 24 low (omega arith))
    ∙ ap (λ (x : ℕ). bit_xor x low) (omega arith)

-- eight steps of a register into whose high byte the byte b was XORed: the result is the XOR of the table's entry for
-- the new high byte and of the old register, shifted by 8 bits
pub table_step : (poly r b : ℕ) → poly < 2 ^ 32 → r < 2 ^ 32 → b < 2 ^ 8
    → bit_xor (after_bits poly 8 (2 ^ 24 * bit_xor (r / 2 ^ 24) b)) (r * 2 ^ 8 % 2 ^ 32) ≡ after_bits poly 8 (bit_xor r (2 ^ 24 * b))
table_step poly r b hp hr hb =
    -- the high byte after the XOR is a byte (`top`), and the shifted register has only the shifted low 24 bits (`low`)
    let top : bit_xor (r / 2 ^ 24) b < 2 ^ 8 = xor_lt 8 (r / 2 ^ 24) b (omega arith) hb in
    let low : r * 2 ^ 8 % 2 ^ 32 ≡ r % 2 ^ 24 * 2 ^ 8 = omega arith in
    ap (bit_xor (after_bits poly 8 (2 ^ 24 * bit_xor (r / 2 ^ 24) b))) (low ∙ sym (after_bits-low poly 8 (r % 2 ^ 24) (omega arith)))
    ∙ sym (after_bits-xor poly 8 (2 ^ 24 * bit_xor (r / 2 ^ 24) b) (r % 2 ^ 24) hp (omega arith) (omega arith))
    ∙ ap (after_bits poly 8) (sym (parted r b hb))
