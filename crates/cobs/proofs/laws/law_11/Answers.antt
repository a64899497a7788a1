-- A frame in a stream is decoded as its message, by `outcome_frame`.
use Rattle.cobs.proofs.decoding.OutcomeLemmas.{outcome_frame}
use Rattle.cobs.proofs.laws.law_11.Goals as goal

pub returns : goal.returns
returns c = record { message = outcome_frame }
