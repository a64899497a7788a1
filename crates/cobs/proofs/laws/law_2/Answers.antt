-- Each message has one encoded frame: by `encoded_frame` there is one, and by `one_encoded` there is no other. The
-- frame has `encoded_len` bytes (`length-encoded`), and its numbers are below 256 if those of the message are
-- (`frame_bytes`).
use Rattle.cobs.proofs.format.EnumerationLemmas.{encoded_frame}
use Rattle.cobs.proofs.format.UniqueLemmas.{length-encoded, one_encoded}
use Rattle.cobs.proofs.format.FrameLemmas.{frame_bytes}
use Rattle.cobs.proofs.laws.law_2.Goals as goal

pub returns : goal.returns
returns c = record {
  one = encoded_frame;
  only = one_encoded;
  len = length-encoded;
  bytes = λ f m e below. frame_bytes f m e.reads below;
}
