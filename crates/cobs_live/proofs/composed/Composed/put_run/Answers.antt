-- The call adds the run (the bytes at the front of the text that need no escape) and, if a character follows the run,
-- the escape of that character (`front_escaped`). If none follows, the text has ended (`front_ended`).
use Rattle.std.proofs.Common.{◌≡◌, ◌++◌, ℕ, List, length, take, drop, rules}
use Rattle.std.proofs.KnownBytes.{Appends-trans}
use Rattle.std.specs.Char.{encode_utf8}
use Rattle.std.proofs.lemmas.Str.{IsUtf8-drop}
use Rattle.cobs_live.specs.Escaped.{escaped}
use Rattle.cobs_live.proofs.EscapeLemmas.{front_ended, front_escaped}
use Rattle.cobs_live.proofs.composed.Composed.put_run.Goals as goal

-- a character follows the run: the run and the escape of this character are written
pub returns-in_ok-put_char-in-Some-clause-put : goal.returns-in_ok-put_char-in-Some-clause-put
returns-in_ok-put_char-in-Some-clause-put c =
    let text : List ℕ = c.args.text.now in
    -- the number of bytes at the front of the text that need no escape
    let run : ℕ = c.visible_run-run.result in
    -- the character c and the text after it follow the run; the bytes after the run are UTF-8 (`utf8`)
    let split : drop run text ≡ encode_utf8 c.in-Some.c ++ c.as_str.result.now = search rules in
    let utf8 = IsUtf8-drop text run c.utf8.text c.visible_run-run.ensures.boundary in
    record {
      done = take run text ++ escaped c.in-Some.c;
      written = Appends-trans _ _ _ _ _ (rw c.as_bytes.ensures.value at c.in_ok-put.ensures.put) c.in_ok-put_char-in-Some.ensures.put;
      is = front_escaped text c.as_str.result.now run c.in-Some.c utf8 c.visible_run-run.ensures.same split;
    }

-- no character follows the run: the run is written, and it is the rest of the text
pub returns-in-None-clause-put : goal.returns-in-None-clause-put
returns-in-None-clause-put c =
    let text : List ℕ = c.args.text.now in
    -- the number of bytes at the front of the text that need no escape
    let run : ℕ = c.visible_run-run.result in
    let none : length (drop run text) ≡ 0 = search rules in
    record {
      done = take run text;
      written = rw c.as_bytes.ensures.value at c.in_ok-put.ensures.put;
      is = front_ended text run c.visible_run-run.ensures.same none;
    }
