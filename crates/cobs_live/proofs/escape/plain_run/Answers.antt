-- A plain byte is ASCII (`plain_below`), so a character begins or the text ends at the index after it.
use Rattle.std.proofs.Common.{IsTrue, get_or, arith, rules}
use Rattle.std.proofs.lemmas.List.Elements.{All-more}
use Rattle.std.proofs.lemmas.Str.{IsCharBoundary-after_ascii, IsCharBoundary-start}
use Rattle.cobs_live.specs.Escaped.{is_plain_byte}
use Rattle.cobs_live.proofs.EscapeLemmas.{plain_below}
use Rattle.cobs_live.proofs.escape.plain_run.Goals as goal

-- before the first byte, a character begins or the text ends at index 0
pub loop-i-init : goal.loop-i-init
loop-i-init c = grind (arith, IsCharBoundary-start)

-- one plain byte more
pub loop-i-preserved : goal.loop-i-preserved
loop-i-preserved c =
    let plain : IsTrue (is_plain_byte (get_or c.args.text.now c.loop-i.i 0)) = search rules in
    record {
      boundary = IsCharBoundary-after_ascii _ _ c.utf8.text (omega arith) (plain_below _ plain);
      plain = All-more (λ byte. IsTrue (is_plain_byte byte)) _ c.loop-i.i 0 (omega arith) c.loop-i.invariant.plain plain;
    }
