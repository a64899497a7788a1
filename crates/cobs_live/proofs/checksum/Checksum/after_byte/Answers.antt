-- For each byte, the table has the result of eight steps of the division, so one look-up replaces eight steps
-- (`table_step`).
use Rattle.std.proofs.Common.{rules, ◌≡◌, ◌<◌, ℕ, ◌*◌, ◌/◌, ◌%◌, arith, ap, sym, ◌∙◌}
use Rattle.std.specs.Prelude.{◌^◌, if◌then◌else◌}
use Rattle.std.specs.Int.{reverse_bits, w8}
use Rattle.std.specs.Int.Bits.{bit_xor}
use Rattle.std.proofs.lemmas.Nat.{xor_lt}
use Rattle.cobs_live.specs.Crc.{after_bits}
use Rattle.cobs_live.proofs.TableLemmas.{table_step}
use Rattle.cobs_live.proofs.checksum.Checksum.after_byte.Goals as goal
use Rattle.cobs_live.proofs.checksum.Checksum.after_byte.Goals.{then-self, else-self}

pub returns : goal.returns
returns c =
    -- the index of the look-up: the register's high byte XORed with `first`, which is the byte, with its bits reversed
    -- if the check is reflected
    let at : ℕ = bit_xor (c.args.register / 2 ^ 24) c.if-self.first in
    -- after the branch, `first` is a byte
    let first : c.if-self.first < 2 ^ 8 = elim c.if-self.branch [
      | then-self w ↦ omega arith
      | else-self w ↦ omega arith
    ] in
    -- after the branch, `first` is the byte that the definition `after_byte` uses
    let in_order : (if c.args.self.now.params.reflected then reverse_bits w8 c.args.byte else c.args.byte) ≡ c.if-self.first = elim c.if-self.branch [
      | then-self w ↦ rw w.if-self.true (cc)
      | else-self w ↦ rw w.if-self.false (cc)
    ] in
    -- the polynomial has 32 bits, and the index is within the table (`within`)
    let poly : c.args.self.now.params.poly < 2 ^ 32 = search rules in
    let within : at < 2 ^ 8 = xor_lt 8 (c.args.register / 2 ^ 24) c.if-self.first (omega arith) first in
    record {
      -- the entry of the table is the result of eight steps, and with the shifted register it is eight steps of the
      -- register
      after = ap (λ (word : ℕ). bit_xor word (c.args.register * 2 ^ 8 % 2 ^ 32)) (c.args.self.now.table at within)
          ∙ table_step c.args.self.now.params.poly c.args.register c.if-self.first poly (omega arith) first
          ∙ ap (λ (first : ℕ). after_bits c.args.self.now.params.poly 8 (bit_xor c.args.register (2 ^ 24 * first))) (sym in_order);
    }

-- the index of the look-up is within the table. Without this answer and the next three, the prover's own search would
-- find the proofs too, but slowly.
pub overflow_cast-top : goal.overflow_cast-top
overflow_cast-top c = omega arith

pub overflow_cast-result : goal.overflow_cast-result
overflow_cast-result c = omega (arith, xor_lt 8 (c.args.register / 2 ^ 24) c.if-self.first (omega arith) (omega arith))

pub offset_bounds-self-top : goal.offset_bounds-self-top
offset_bounds-self-top c = omega (arith, xor_lt 8 (c.args.register / 2 ^ 24) c.if-self.first (omega arith) (omega arith))

pub bounds-self-top : goal.bounds-self-top
bounds-self-top c = xor_lt 8 (c.args.register / 2 ^ 24) c.if-self.first (omega arith) (omega arith)
