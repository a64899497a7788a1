-- A frame reads as its output, by `OutcomeLemmas`; with one more byte, the output doesn't get shorter, by
-- `output-longer`.
use Rattle.cobs.proofs.decoding.OutcomeLemmas.{output_within, reads_iff, reads_only}
use Rattle.cobs.proofs.streaming.LastPiece.{output-longer}
use Rattle.cobs.proofs.laws.law_1.Goals as goal

pub returns : goal.returns
returns c = record {
  reads = reads_iff;
  only = reads_only;
  within = output_within;
  grows = output-longer;
}
