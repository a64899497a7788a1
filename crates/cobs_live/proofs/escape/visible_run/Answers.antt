-- The first `run` bytes of the text need no escape. With one character more that needs no escape, the run ends at the
-- next boundary (`past_char`, `past_char_run`). Plain bytes after this character are added at once (`run_past`).
use Rattle.std.proofs.Common.{◌≡◌, ◌+◌, ◌++◌, ℕ, List, drop, subst, rules}
use Rattle.std.specs.Char.{encode_utf8}
use Rattle.std.specs.Str.{IsCharBoundary}
use Rattle.std.proofs.lemmas.Str.{IsCharBoundary-from_rest}
use Rattle.cobs_live.proofs.EscapeLemmas.{front_run, past_char, past_char_run, run_past}
use Rattle.cobs_live.proofs.escape.visible_run.Goals as goal

-- before the loop, the run consists of the plain bytes at the front of the text
pub by_char-init : goal.by_char-init
by_char-init c = record {
  boundary = c.plain_run-run.ensures.boundary;
  same = front_run c.args.text.now c.plain_run-run.result c.utf8.text c.plain_run-run.ensures.plain;
}

-- the range after the character begins at a boundary
pub range_from-requires-in-by_char : goal.range_from-requires-in-by_char
range_from-requires-in-by_char c =
    let split : drop c.by_char.run c.args.text.now ≡ encode_utf8 c.in-Some.c ++ c.next.new.self.rest.now = search rules in
    λ _. past_char c.args.text.now c.next.new.self.rest.now c.by_char.run c.in-Some.c c.len_utf8-run.result c.utf8.text c.by_char.invariant.boundary split c.len_utf8-run.ensures.value

-- one character more, and the plain bytes after it
pub by_char-preserved : goal.by_char-preserved
by_char-preserved c =
    let text : List ℕ = c.args.text.now in
    let run : ℕ = c.by_char.run in
    -- the bytes after the character, the index at which they begin (`at`), and the number of plain bytes at their front
    -- (`more`)
    let rest : List ℕ = c.next.new.self.rest.now in
    let at : ℕ = run + c.len_utf8-run.result in
    let more : ℕ = c.plain_run-run-in-by_char.result in
    let held = c.by_char.invariant in
    let split : drop run text ≡ encode_utf8 c.in-Some.c ++ rest = search rules in
    -- the run with the character ends at a boundary (`behind`), and needs no escape (`same`)
    let behind = past_char text rest run c.in-Some.c c.len_utf8-run.result c.utf8.text held.boundary split c.len_utf8-run.ensures.value in
    let same = past_char_run text rest run c.in-Some.c c.len_utf8-run.result c.utf8.text held.boundary split c.len_utf8-run.ensures.value (c.needs_escape.ensures.same c.if-needs_escape.false) held.same in
    record {
      boundary = IsCharBoundary-from_rest text at more behind.0 (subst (λ (l : List ℕ). IsCharBoundary l more) c.range_from-in-by_char.ensures.value c.plain_run-run-in-by_char.ensures.boundary);
      same = run_past text c.range_from-in-by_char.result.now at more c.utf8.text behind c.range_from-in-by_char.ensures.value c.plain_run-run-in-by_char.ensures.plain same;
    }
