-- A new state has the open frame of the empty message, by `IsOpenFrame-start`.
use Rattle.std.proofs.Common.{arith}
use Rattle.cobs.specs.Grammar.{lone_block}
use Rattle.cobs.proofs.encoding.OpenLemmas.{IsOpenFrame-start}
use Rattle.cobs.proofs.enc.state.EncoderStateDefault.default.Goals as goal

pub returns-clause-after_nothing : goal.returns-clause-after_nothing
returns-clause-after_nothing c = (lone_block, IsOpenFrame-start)

pub returns-clause-output : goal.returns-clause-output
returns-clause-output c = grind (arith, IsOpenFrame-start)
