-- The digits are put behind the two characters `\u` (`behind`).
use Rattle.cobs_live.proofs.AppendLemmas.{behind}
use Rattle.cobs_live.proofs.composed.Composed.put_unit.Goals as goal

pub returns : goal.returns
returns c = record { put = behind c.put_digits.result _ _ _ _ _ c.in_ok-put.ensures.put c.put_digits.ensures.put }
