-- Each iteration feeds one more byte, which isn't a zero (`FeedsQuietly-byte`).
use Rattle.std.proofs.Common.{◌≢◌, ◌<◌, ◌∙◌, ℕ, List, length, sym, arith}
use Rattle.std.proofs.lemmas.List.{length-map}
use Rattle.std.proofs.lemmas.List.Elements.{All-more}
use Rattle.std.specs.Int.Bits.{bit_xor}
use Rattle.cobs.specs.Sentinel.{xor_each}
use Rattle.cobs.proofs.format.SentinelLemmas.{coded_at}
use Rattle.cobs.proofs.streaming.SpanLemmas.{FeedsQuietly-byte}
use Rattle.cobs.proofs.dec.unbuffered.UnbufferedDecoder.take_steps.Goals as goal

pub by_byte-preserved : goal.by_byte-preserved
by_byte-preserved c =
    let xored : List ℕ = xor_each c.args.sentinel c.args.bytes.now in
    let i : ℕ = c.by_byte.taken in
    let inside : i < length xored = omega (arith, length-map c.args.bytes.now (λ b. bit_xor b c.args.sentinel), c.by_byte-test.true) in
    -- the byte at index i, XORed with the sentinel
    let is = coded_at c.args.bytes.now c.args.sentinel i c.by_byte-test.true in
    record {
      within = omega arith;
      nonzero = All-more (λ b. b ≢ 0) xored i 0 inside c.by_byte.invariant.nonzero (λ e. c.if-byte-eq0.false (sym is ∙ e));
      going = c.take_byte.ensures.going;
      fed = FeedsQuietly-byte xored _ _ _ _ _ _ i _ inside is c.by_byte.invariant.fed (c.take_byte.ensures.fed c.if-not-take_byte.false);
    }
