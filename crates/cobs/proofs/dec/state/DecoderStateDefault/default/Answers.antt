-- A new state is the state after no byte, by `StateAfter-start`.
use Rattle.cobs.proofs.streaming.TableLemmas.{StateAfter-start}
use Rattle.cobs.proofs.dec.state.DecoderStateDefault.default.Goals as goal

pub returns-clause-after_nothing : goal.returns-clause-after_nothing
returns-clause-after_nothing c = StateAfter-start
