-- The read copies the first bytes that are left, and leaves the others. So it is a step of the source, which returns 64
-- bytes, or all bytes if there are fewer (`TakesChunk-read`).
use Rattle.cobs_lines.proofs.MemoryLemmas.{TakesChunk-read}
use Rattle.cobs_lines.proofs.memory.InMemoryFrameSource.read_some.Goals as goal

pub returns-clause-step : goal.returns-clause-step
returns-clause-step c =
    -- the clauses of the read: how many bytes it copied, where they are now, and which bytes are left
    let read = c.read.ensures in
    rw c.ok.ensures.value (TakesChunk-read _ _ _ _ _ c.told-chunk read.count read.copied read.rest)
