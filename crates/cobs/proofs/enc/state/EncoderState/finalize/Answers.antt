-- The code that `finalize` returns, written to its place in the output, completes the open frame: by `completed`.
use Rattle.cobs.proofs.encoding.OpenedLemmas.{completed}
use Rattle.cobs.proofs.enc.state.EncoderState.finalize.Goals as goal

pub returns-clause-completed : goal.returns-clause-completed
returns-clause-completed c = λ m g o. completed (rw (← c.self.view_is) at o)
