-- If the bytes are UTF-8, the member's name, the escaped text and the last quote are written one after another
-- (`quoted`).
use Rattle.cobs_live.proofs.EscapeLemmas.{quoted}
use Rattle.cobs_live.proofs.composed.Composed.put_text.Goals as goal

pub returns : goal.returns
returns c = record {
  put = quoted c.put-2.result _ _ _ _ _ _ c.in-Ok.ensures.cases.1 c.in-Ok.ensures.cases.0 c.in_ok-put.ensures.put c.in_ok-put_escaped.ensures.put c.put-2.ensures.put;
}
