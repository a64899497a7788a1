-- If no piece has begun, the sentinels are fed quietly (`FeedsQuietly`; `quiet-zeros`), and the byte after them isn't a
-- sentinel. If a piece has begun, the function returns 0, and the tactics prove the clauses.
use Rattle.std.proofs.Common.{◌≡◌, ◌+◌, ◌<◌, ℕ, List, length, drop, get_or, arith}
use Rattle.std.proofs.lemmas.List.{drop_more, length-map}
use Rattle.std.specs.Int.Bits.{bit_xor}
use Rattle.cobs.specs.Decode.{leading_zeros}
use Rattle.cobs.specs.Sentinel.{xor_each}
use Rattle.cobs.proofs.format.SentinelLemmas.{coded_some, coded_zero}
use Rattle.cobs.proofs.streaming.OpenLemmas.{quiet-zeros}
use Rattle.cobs.proofs.dec.unbuffered.UnbufferedDecoder.zeros_outside.Goals as goal

-- one zero more at the front of the rest
zeros-more : (bytes : List ℕ) (i : ℕ) → i < length bytes → get_or bytes i 0 ≡ 0 → leading_zeros bytes ≡ i + leading_zeros (drop i bytes) → leading_zeros bytes ≡ i + 1 + leading_zeros (drop (i + 1) bytes)
zeros-more bytes i inside zero is = let more = rw (drop_more bytes i 0 inside, zero) at is in omega (arith, more)

-- an idle decoder takes the sentinels quietly
pub returns-then-bytes-i-clause-quiet : goal.returns-then-bytes-i-clause-quiet
returns-then-bytes-i-clause-quiet c buffer = rw (c.is_idle.ensures.idle.0 (grind arith)) (quiet-zeros buffer (xor_each c.args.sentinel c.args.bytes.now) _ (omega arith))

-- the byte after them isn't a sentinel
pub returns-then-bytes-i-clause-next : goal.returns-then-bytes-i-clause-next
returns-then-bytes-i-clause-next c idle within = coded_some _ _ _ within c.if-bytes-i.true

-- one more sentinel
pub by_byte-preserved : goal.by_byte-preserved
by_byte-preserved c =
    let xored : List ℕ = xor_each c.args.sentinel c.args.bytes.now in
    let inside : c.by_byte.i < length xored = omega (arith, length-map c.args.bytes.now (λ b. bit_xor b c.args.sentinel)) in
    zeros-more xored c.by_byte.i inside (coded_zero c.args.bytes.now c.args.sentinel c.by_byte.i (omega arith) c.if-bytes-i.false) c.by_byte.invariant

-- all bytes are sentinels
pub returns-clause-quiet : goal.returns-clause-quiet
returns-clause-quiet c buffer = rw (c.is_idle.ensures.idle.0 (grind arith)) (quiet-zeros buffer (xor_each c.args.sentinel c.args.bytes.now) _ (omega arith))
