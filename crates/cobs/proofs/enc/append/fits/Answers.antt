-- The bytes are counted one by one. If a byte follows a full block, the block is closed (`len-full`). Then the byte
-- joins the open block (`len-byte`), or closes it (`len-zero`).
use Rattle.std.proofs.Common.{◌≡◌, ◌+◌, ◌<◌, ℕ, List, drop, refl, arith, length-drop}
use Rattle.cobs.specs.Length.{open_len}
use Rattle.cobs.proofs.encoding.OpenLenLemmas.{len-byte, len-end, len-full, len-zero, open_len-least}
use Rattle.cobs.proofs.enc.append.fits.Goals.{then-code-eq-FULL_CODE+else-left-eq0, else-code-eq-FULL_CODE, then-byte-eq0, else-byte-eq0}
use Rattle.cobs.proofs.enc.append.fits.Goals as goal

-- a full block has used the last spare byte, so no byte is left for the code of the next block, and the frame doesn't
-- fit
pub returns-then-left-eq0 : goal.returns-then-left-eq0
returns-then-left-eq0 c =
    let full = len-full c.args.bytes.now c.by_byte.byte-index (omega arith) c.by_byte.code (omega arith) in
    let least = open_len-least 1 (drop c.by_byte.byte-index c.args.bytes.now) (omega arith) in
    let long = length-drop c.by_byte.byte-index c.args.bytes.now in
    (λ t. cc, λ le. absurd (omega arith))

-- one more byte is counted
pub by_byte-preserved : goal.by_byte-preserved
by_byte-preserved c =
    let bytes : List ℕ = c.args.bytes.now in
    let i : ℕ = c.by_byte.byte-index in
    let code : ℕ = c.if-code-eq-FULL_CODE.code in
    let left : ℕ = c.if-code-eq-FULL_CODE.left in
    -- before the byte, the open block isn't full
    let open' : (0 < code) × (code < 255) × (0 < left) × (open_len code (drop i bytes) + c.args.taken + c.args.spare + i + 1 ≡ open_len (c.args.taken + 1) bytes + code + left) =
    elim c.if-code-eq-FULL_CODE.branch [
      | then-code-eq-FULL_CODE+else-left-eq0 w ↦ rw (w.left-is, w.code-is) (let full = len-full bytes i (omega arith) c.by_byte.code w.if-code-eq-FULL_CODE.true in (omega arith, omega arith, omega arith, omega arith))
      | else-code-eq-FULL_CODE w ↦ rw (w.left-is, w.code-is) (omega arith, omega arith, omega arith, omega arith)
    ] in
    elim c.if-byte-eq0.branch [
      | then-byte-eq0 w ↦ rw w.code-is (let zero = len-zero bytes i (omega arith) code open'.0 w.if-byte-eq0.true in record { some = omega arith; most = omega arith; more = omega arith; total = omega arith })
      | else-byte-eq0 w ↦ rw w.code-is (let other = len-byte bytes i (omega arith) code open'.0 w.if-byte-eq0.false in record { some = omega arith; most = omega arith; more = omega arith; total = omega arith })
    ]

-- all bytes are counted, and the open block needs no further code, so the frame fits
pub returns : goal.returns
returns c =
    let end = len-end c.args.bytes.now c.by_byte.byte-index c.by_byte.code (omega arith) in
    (λ t. omega arith, λ le. refl)
