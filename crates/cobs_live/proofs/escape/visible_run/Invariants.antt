-- The first `run` bytes are the same in the escaped text (`same`), and they end at a character boundary (`boundary`).
-- The loop ends, because each iteration makes the run longer.
use Rattle.std.proofs.Common.{◌≡◌, ◌-◌, ◌++◌, length, take, drop}
use Rattle.std.specs.Str.{IsCharBoundary}
use Rattle.cobs_live.specs.Escaped.{text_escaped}
use Rattle.cobs_live.proofs.escape.visible_run.Given as goal

abbrev pub invariant-by_char : goal.invariant-by_char
invariant-by_char l = record {
  boundary : IsCharBoundary l.text l.run;
  same : text_escaped l.text ≡ take l.run l.text ++ text_escaped (drop l.run l.text);
}

abbrev pub decreases-by_char : goal.decreases-by_char
decreases-by_char l = length l.text - l.run
