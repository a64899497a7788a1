-- The four words of a packet's header are written one after another: the first three by `Appends-trans`, and the last
-- one, whose write may fail, by `behind`.
use Rattle.std.proofs.KnownBytes.{Appends-trans}
use Rattle.cobs_live.proofs.AppendLemmas.{behind}
use Rattle.cobs_live.proofs.capture.write_packet_head.Goals as goal

pub returns : goal.returns
returns g c = record {
  written = behind c.write_word-4.result _ _ _ _ _ (Appends-trans _ _ _ _ _ (Appends-trans _ _ _ _ _ c.in_ok-write_word.ensures.written c.in_ok-write_word-2.ensures.written) c.in_ok-write_word-3.ensures.written) c.write_word-4.ensures.written;
}
