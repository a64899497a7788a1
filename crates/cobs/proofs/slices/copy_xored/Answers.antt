-- If the sentinel is 0, `copy_xored` only copies the source. This copy is already the source XORed with 0, because XOR
-- with 0 changes no byte (`xor_each-zero`).
use Rattle.std.proofs.Common.{arith}
use Rattle.cobs.proofs.bytes.XoredLemmas.{xor_each-zero}
use Rattle.cobs.proofs.slices.copy_xored.Goals as goal

pub returns-then-sentinel-eq0 : goal.returns-then-sentinel-eq0
returns-then-sentinel-eq0 c = grind (arith, xor_each-zero)
