-- Each earlier try would have blocked, so the tries have written nothing: the writer's contents are as they were before
-- the call (`Keeps`).
use Rattle.std.specs.Io.KnownBytes.{Keeps}
use Rattle.cobs_live.proofs.port.PortWrite.write.Given as goal

abbrev pub invariant-by_try : goal.invariant-by_try
invariant-by_try g l = Keeps (g.W.Write.contents l.fn.self.inner) (g.W.Write.contents l.self.inner)
