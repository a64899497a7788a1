-- XOR with the sentinel twice changes nothing (`xor_each-twice`), so the XORed bytes are a frame for the sentinel. The
-- sentinel doesn't occur in this frame (`encoded_free`).
use Rattle.std.proofs.Common.{arith, length-take-le, take_at}
use Rattle.cobs.proofs.format.SentinelLemmas.{encoded_free, xor_each-twice}
use Rattle.cobs.proofs.enc.sentinel.try_encode_with_sentinel.Goals as goal

pub returns-clause-frame : goal.returns-clause-frame
returns-clause-frame c = grind (arith, length-take-le, take_at, xor_each-twice)

pub returns-clause-no_sentinel : goal.returns-clause-no_sentinel
returns-clause-no_sentinel c = encoded_free c.args.sentinel _ (returns-clause-frame c)
