-- Each earlier try would have blocked, so the tries have read nothing: the reader's bytes are as they were before the
-- call (`Keeps`).
use Rattle.std.specs.Io.KnownBytes.{Keeps}
use Rattle.cobs_live.proofs.port.PortRead.read.Given as goal

abbrev pub invariant-by_try : goal.invariant-by_try
invariant-by_try g l = Keeps (g.R.Read.remaining l.fn.self.inner) (g.R.Read.remaining l.self.inner)
