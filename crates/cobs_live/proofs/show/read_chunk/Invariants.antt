-- Every read so far was interrupted: it returned nothing (`once`), and took no byte of the input (`kept`).
use Rattle.std.proofs.Common.{◌≡◌, [], length}
use Rattle.std.specs.Io.Buffered.{writer_inner}
use Rattle.cobs_live.specs.Reads.{ReadsOnce}
use Rattle.std.specs.Io.KnownBytes.{Keeps}
use Rattle.cobs_live.proofs.show.read_chunk.Given as goal

abbrev pub invariant-by_try : goal.invariant-by_try
invariant-by_try g l = record {
  once : ReadsOnce g.S.LiveInput.step l.fn.input l.input (g.W.Write.contents (writer_inner l.output)) [];
  kept : Keeps (g.S.LiveInput.remaining l.fn.input) (g.S.LiveInput.remaining l.input);
  len : length l.chunk ≡ length l.fn.chunk;
}
