-- The pieces that ended in the reads so far are shown, and at each of these reads the pieces of all earlier reads were
-- written (`IsLiveSoFar`). The output's buffer is empty, and the chunk has 65,536 bytes.
use Rattle.std.proofs.Common.{◌≡◌, [], vec_len}
use Rattle.std.specs.Io.Buffered.{writer_buffer, writer_inner}
use Rattle.cobs_live.specs.Live.{IsLiveSoFar}
use Rattle.cobs_live.proofs.show.run_show.Given as goal

abbrev pub invariant-by_read : goal.invariant-by_read
invariant-by_read g l = record {
  live : IsLiveSoFar g.S.LiveInput.step l.fn.input l.input l.settings (g.S.LiveInput.remaining l.fn.input) (g.S.LiveInput.remaining l.input) (g.W.Write.contents (writer_inner l.fn.output)) (g.W.Write.contents (writer_inner l.output)) l.watch;
  flushed : writer_buffer l.output ≡ [];
  chunk : vec_len l.chunk ≡ 65536;
}
