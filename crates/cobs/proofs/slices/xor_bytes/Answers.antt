-- Each iteration of the loop XORs one more byte, so the invariant holds for an index that is one greater. This is
-- `map_over_more` of std, for the function that XORs a byte.
use Rattle.std.proofs.Common.{ℕ, ◌<◌, List, length, get_or, arith}
use Rattle.std.proofs.lemmas.List.{get_or_default}
use Rattle.std.proofs.lemmas.List.Edits.{map_over_more}
use Rattle.std.specs.Int.Bits.{bit_xor}
use Rattle.cobs.proofs.slices.xor_bytes.Goals as goal

pub loop-byte-preserved : goal.loop-byte-preserved
loop-byte-preserved c =
    -- the bytes at the start of the iteration; the index is within them
    let now : List ℕ = c.loop-byte.bytes in
    let within : _ < length now = omega arith in
    map_over_more (λ b. bit_xor b c.args.sentinel) c.args.bytes.now now _ (get_or now _ 0) (omega arith) c.loop-byte.invariant (get_or_default now _ 0 (get_or now _ 0) within)
