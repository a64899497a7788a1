-- The fields of `FrameLaw`. `fed` and `fed_only` are about the zero after a frame, and `taken`, `taken_only` and `ends`
-- about `feed_piece`; all five are lemmas of `FrameTaken`. `pushed` and `pushed_only`, about a push, are the two
-- directions of `push_reads`. The variables: w or t is the record of the call, h says that f was fed, and r that f is a
-- frame of m.
use Rattle.cobs.proofs.streaming.FrameTaken.{fed-only, fed-reads, taken-only, taken-piece, taken-reads}
use Rattle.cobs.proofs.streaming.PushHeadline.{push_reads}
use Rattle.cobs.proofs.decoding.ReadsLemmas.{frame_piece}
use Rattle.std.proofs.Common.{refl}
use Rattle.cobs.proofs.laws.coders.law_18.Goals as goal

pub returns : goal.returns
returns c = record {
  fed = λ buffer buffer' f m phase phase' result w h r fits. fed-reads w h m r fits;
  fed_only = λ buffer buffer' f phase phase' n w h below. fed-only w h n refl below;
  taken = λ buffer buffer' f more m phase phase' result t idle r fits. taken-reads buffer buffer' f more phase phase' idle (frame_piece r) result t m r fits;
  taken_only = λ buffer buffer' f more phase phase' n count t idle piece below. taken-only buffer buffer' f more phase phase' idle piece n count t below;
  ends = λ buffer buffer' f more phase phase' result t idle piece. taken-piece buffer buffer' f more phase phase' idle piece result t;
  pushed = λ buffer buffer' bytes f m phase phase' result w idle is below r fits. (push_reads w below f m idle is (frame_piece r)).1 (r, fits);
  pushed_only = λ buffer buffer' bytes f m phase phase' result w idle is below piece stated. (push_reads w below f m idle is piece).0 stated;
}
