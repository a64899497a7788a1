-- Each iteration of the loop changes one more byte, by `map_over_more`. `now` is the bytes at the start of the
-- iteration, and i is the index.
use Rattle.std.proofs.Common.{ℕ, ◌<◌, List, length, get_or, arith}
use Rattle.std.proofs.lemmas.List.{get_or_default}
use Rattle.std.proofs.lemmas.List.Edits.{map_over_more}
use Rattle.std.specs.Int.Bits.{bit_xor}
use Rattle.cobs_vectors.proofs.own_coders.change_sentinel.Goals as goal

pub loop-byte-preserved : goal.loop-byte-preserved
loop-byte-preserved c =
    let now : List ℕ = c.loop-byte.frame in
    let i : ℕ = c.loop-byte.byte-index in
    let within : i < length now = omega arith in
    map_over_more (λ b. bit_xor b c.args.sentinel) c.args.frame.now now i (get_or now i 0) (omega arith) c.loop-byte.invariant (get_or_default now i 0 (get_or now i 0) within)
