-- A frame has one message (`one_message`), so equal encoded frames have equal messages (`same_message`).
use Rattle.cobs.proofs.format.GrammarLemmas.{one_message}
use Rattle.cobs.proofs.format.UniqueLemmas.{same_message}
use Rattle.cobs.proofs.laws.law_5.Goals as goal

pub returns : goal.returns
returns c = record { message = one_message; encoded = same_message }
