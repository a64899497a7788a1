-- A front of the text is written, escaped, and `rest` is left (`WritesFront`). `rest` is UTF-8. The loop ends, because
-- each iteration shortens `rest`.
use Rattle.std.proofs.Common.{length}
use denote.Shadow.{shadow}
use denote.Text.{Utf8}
use Rattle.cobs_live.specs.Composed.{contents_of}
use Rattle.cobs_live.specs.Escaped.{WritesFront}
use Rattle.cobs_live.proofs.composed.Composed.put_escaped.Given as goal

abbrev pub invariant-by_run : goal.invariant-by_run
invariant-by_run l = shadow (Utf8 l.rest) × WritesFront (contents_of l.fn.self) (contents_of l.self) l.text l.rest

abbrev pub decreases-by_run : goal.decreases-by_run
decreases-by_run l = length l.rest
