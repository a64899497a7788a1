-- If the bytes are UTF-8, the member's name, the escaped text and the last quote are written one after another
-- (`quoted`).
use Rattle.cobs_live.proofs.EscapeLemmas.{quoted}
use Rattle.cobs_live.proofs.json.write_utf8.Goals as goal

pub returns : goal.returns
returns g c = record {
  written = quoted c.write_all-2.result _ _ _ _ _ _ c.in-Ok.ensures.cases.1 c.in-Ok.ensures.cases.0 c.in_ok-write_all.ensures.bytes c.in_ok-write_escaped.ensures.written c.write_all-2.ensures.bytes;
}
