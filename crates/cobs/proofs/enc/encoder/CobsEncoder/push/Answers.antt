-- The clauses of `UnbufferedEncoder::push` say the same of the encoder and the slice; only `rest` counts the end of the
-- frame by `encoded_len` (`end-is`). Without this answer, the prover's own search would take long.
use Rattle.std.proofs.Common.{arith}
use Rattle.cobs.proofs.encoding.TakingLemmas.{encoder_steps}
use Rattle.cobs.proofs.enc.encoder.CobsEncoder.push.Goals as goal

pub returns-clause-rest : goal.returns-clause-rest
returns-clause-rest c = grind (arith, encoder_steps)
