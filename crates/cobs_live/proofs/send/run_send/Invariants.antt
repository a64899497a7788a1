-- The frames of the lines that were read so far are written, and `all_sent` says whether every line could be sent. At
-- each of these reads, the frames of all earlier lines were written (`IsLiveSoFar`). The output's buffer is empty.
use Rattle.std.proofs.Common.{◌≡◌, []}
use Rattle.std.specs.Io.Buffered.{writer_buffer, writer_inner}
use Rattle.cobs_live.proofs.SendLemmas.{IsLiveSoFar}
use Rattle.cobs_live.proofs.send.run_send.Given as goal

abbrev pub invariant-by_line : goal.invariant-by_line
invariant-by_line g l = record {
  live : IsLiveSoFar g.S.LiveLines.step l.fn.input l.input l.settings l.all_sent (g.S.LiveLines.remaining l.fn.input) (g.S.LiveLines.remaining l.input) (g.W.Write.contents (writer_inner l.fn.output)) (g.W.Write.contents (writer_inner l.output));
  flushed : writer_buffer l.output ≡ [];
}
