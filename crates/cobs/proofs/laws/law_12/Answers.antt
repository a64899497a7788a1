-- The first piece and the last piece of a stream. The fields are lemmas on the bytes before the first zero
-- (`HeadLemmas`, `OutcomeLemmas`), and lemmas on the last piece (`LastPiece`).
use Rattle.cobs.proofs.decoding.HeadLemmas.{first_piece_behind, first_piece_none, first_piece_some, front_is_head}
use Rattle.cobs.proofs.decoding.OutcomeLemmas.{first_piece_head, head_reads}
use Rattle.cobs.proofs.decoding.SourceSteps.{xor_head}
use Rattle.cobs.proofs.streaming.LastPiece.{last_piece-unended, last_piece-zero}
use Rattle.cobs.proofs.streaming.SoFar.{no_outcomes}
use Rattle.cobs.proofs.laws.law_12.Goals as goal

pub returns : goal.returns
returns c = record {
  piece = first_piece_head;
  reads = head_reads;
  behind = first_piece_behind;
  head = front_is_head;
  -- `head`, after each byte is XORed with the sentinel s
  head_for = λ t n s. xor_head t n s;
  found = first_piece_some;
  none = first_piece_none;
  -- a stream without an outcome has no piece that has ended (`no_outcomes`), so its last piece is its unended bytes
  last = λ t n none. last_piece-unended t (no_outcomes t n none);
  last_ended = λ t n none. last_piece-zero t (no_outcomes t n none);
}
