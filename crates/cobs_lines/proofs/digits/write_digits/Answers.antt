-- At the start of an iteration, the digits of the first `at` bytes are written. The iteration writes the digits of the
-- next chunk, which end at the byte `end`. The digits of two parts together are the digits of the first part and then
-- the digits of the second (`encode_with-append`). So after the iteration the digits of the first `end` bytes are
-- written (`Appends-trans`).
use Rattle.std.proofs.Common.{◌≡◌, ◌+◌, ◌-◌, ◌*◌, ℕ, List, ◌++◌, take, drop, length, sym, ap, ◌∙◌, arith, length-take, length-drop, length-append}
use Rattle.std.proofs.KnownBytes.{Appends-nil, Appends-trans}
use Rattle.std.proofs.Math.Seq.{take-add}
use Rattle.hex.specs.Hex.{encode_lower, lower_digits}
use Rattle.hex.proofs.HexLemmas.{length-encode_with}
use Rattle.cobs_lines.proofs.DigitLemmas.{encode_with-append, encode_with-nil}
use Rattle.cobs_lines.proofs.digits.write_digits.Goals as goal

-- before the first chunk, no byte's digits are written
pub by_chunk-init : goal.by_chunk-init
by_chunk-init g c = record { within = omega arith; room = omega arith; written = rw (encode_with-nil lower_digits) (Appends-nil _) }

pub by_chunk-preserved : goal.by_chunk-preserved
by_chunk-preserved g c =
    let bytes = c.args.bytes.now in
    let at = c.by_chunk.at in
    let end = c.min-end.result in
    -- the bytes of the chunk; there are end - at of them (`count`)
    let chunk = take (end - at) (drop at bytes) in
    let is : end ≡ at + (end - at) = omega (arith, c.min-end.ensures, c.by_chunk-test.true) in
    let count : length chunk ≡ end - at = omega (arith, length-take (end - at) (drop at bytes), length-drop at bytes, c.min-end.ensures) in
    -- the part of the array `digits` that is filled has two places for each byte of the chunk
    let fits : length (take (2 * (end - at)) c.by_chunk.digits) ≡ 2 * length chunk =
    omega (arith, length-take (2 * (end - at)) c.by_chunk.digits, c.by_chunk.invariant.room, count, c.min-end.ensures) in
    -- the filled part has the digits of the chunk
    let digits : c.fill_digits.new.room ≡ encode_lower chunk = c.fill_digits.ensures.digits in
    -- the digits of the first `end` bytes are the digits of the first `at` bytes, and then those of the chunk
    let whole : encode_lower (take end bytes) ≡ encode_lower (take at bytes) ++ c.fill_digits.new.room =
    ap (λ (n : ℕ). encode_lower (take n bytes)) is ∙ ap encode_lower (take-add at (end - at) bytes) ∙ encode_with-append lower_digits (take at bytes) chunk ∙ ap (λ (l : List ℕ). encode_lower (take at bytes) ++ l) (sym digits) in
    record {
      within = omega (arith, c.min-end.ensures);
      -- the array keeps its length, because the filled part keeps its length
      room = omega (
        arith,
        length-append c.fill_digits.new.room (drop (2 * (end - at)) c.by_chunk.digits),
        length-drop (2 * (end - at)) c.by_chunk.digits,
        ap length digits,
        length-encode_with lower_digits chunk,
        count,
        c.by_chunk.invariant.room,
        c.min-end.ensures,
      );
      written = rw whole (Appends-trans _ _ _ _ _ c.by_chunk.invariant.written c.in_ok-write_all.ensures.bytes);
    }
