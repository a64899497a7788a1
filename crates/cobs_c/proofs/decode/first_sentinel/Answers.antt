-- The bytes before the first sentinel, XORed with it, are the head of the XORed bytes, by `law_12`.
-- `law_12`: The first and the last piece of a stream.
use Rattle.std.proofs.Common.{◌≡◌, ◌≢◌, ◌<◌, ◌≤◌, ◌∙◌, List, ℕ, All, length, take, get_or, sym, ap, arith, length-take-le}
use Rattle.std.proofs.lemmas.Grind.{common_steps}
use Rattle.std.proofs.lemmas.List.{length-map}
use Rattle.std.specs.Int.Bits.{bit_xor}
use Rattle.cobs_c.proofs.decode.first_sentinel.Goals as goal

pub returns-clause-head : goal.returns-clause-head
returns-clause-head c =
    let bytes : List ℕ = c.args.bytes.now in
    let n : ℕ = c.unwrap_or.result in
    let within : n ≤ length bytes = grind (arith, common_steps) in
    let before : All (λ byte. byte ≢ c.args.sentinel) (take n bytes) = grind (arith, common_steps) in
    let stop : n < length bytes → get_or bytes n 0 ≡ c.args.sentinel = grind (arith, common_steps) in
    -- XOR doesn't change the number of these bytes
    sym (length-map (take n bytes) (λ b. bit_xor b c.args.sentinel) ∙ length-take-le n bytes within) ∙ ap length (c.law_12.ensures.head_for bytes n c.args.sentinel within before stop)
