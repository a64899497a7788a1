-- A front of the text is written, escaped, and `rest` is left (`WritesFront`). `rest` is UTF-8. The loop ends, because
-- each iteration shortens `rest`.
use Rattle.std.proofs.Common.{length}
use denote.Shadow.{shadow}
use denote.Text.{Utf8}
use Rattle.cobs_live.specs.Escaped.{WritesFront}
use Rattle.cobs_live.proofs.escape.write_escaped.Given as goal

abbrev pub invariant-by_run : goal.invariant-by_run
invariant-by_run g l = shadow (Utf8 l.rest) × WritesFront (g.W.Write.contents l.fn.output) (g.W.Write.contents l.output) l.text l.rest

abbrev pub decreases-by_run : goal.decreases-by_run
decreases-by_run g l = length l.rest
