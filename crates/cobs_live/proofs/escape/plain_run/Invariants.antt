-- The first i bytes are plain, so they are ASCII characters, and a character begins or the text ends at index i.
use Rattle.std.proofs.Common.{All, IsTrue, take}
use Rattle.std.specs.Str.{IsCharBoundary}
use Rattle.cobs_live.specs.Escaped.{is_plain_byte}
use Rattle.cobs_live.proofs.escape.plain_run.Given as goal

abbrev pub invariant-loop-i : goal.invariant-loop-i
invariant-loop-i l = record {
  boundary : IsCharBoundary l.text l.i;
  plain : All (λ byte. IsTrue (is_plain_byte byte)) (take l.i l.text);
}
