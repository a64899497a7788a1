-- `SentSoFar` is the state between two lines. Each iteration adds a line: `SentSoFar-more` if it is sent, and
-- `SentSoFar-skipped` if it can't be sent. The call ends with the input (`sent_all`), or with a fault after the lines
-- so far (`send_failed`, `unsent`). At each read, the frames of all earlier lines were written (`live-read`).
use Rattle.std.proofs.Common.{◌≡◌, ◌≢◌, ◌∷◌, ◌++◌, ◌∙◌, refl, ℕ, List, [], length, ap, arith, rules, IfSome}
use Rattle.std.specs.Io.{StopsAt}
use Rattle.std.specs.Io.BufRead.{take_through}
use Rattle.std.specs.Io.KnownBytes.{Consumes}
use Rattle.std.proofs.KnownBytes.{Consumes-nil, Keeps-refl}
use Rattle.std.proofs.lemmas.List.Elements.{All-nil}
use Rattle.std.proofs.lemmas.List.{nil_from_length}
use Rattle.std.specs.Io.Buffered.{writer_buffer, writer_inner}
use Rattle.cobs_live.specs.Reads.{Read, came}
use Rattle.cobs_live.proofs.ReadLemmas.{came-push, live-none}
use Rattle.cobs_live.proofs.SendLemmas.{live-read, SentSoFar-start, SentSoFar-more, SentSoFar-skipped, send_failed, sent_all, unsent}
use Rattle.cobs_live.proofs.send.run_send.Goals as goal
use Rattle.cobs_live.proofs.send.run_send.Goals.{then-not-branch, else-not-branch}

-- before the first line, nothing is read or sent
pub by_line-init : goal.by_line-init
by_line-init g c = record { live = record { so_far = SentSoFar-start _ _ _; live = live-none _ _ _; same = refl }; flushed = c.requires.flushed }

-- the read returned no bytes: the input has ended
pub returns-then-count-eq0 : goal.returns-then-count-eq0
returns-then-count-eq0 g c =
    -- the read returned no byte, so the line is empty (`nothing`); before the read, the line was cleared (`start`)
    let none : c.in-Ok.count ≡ 0 = c.if-count-eq0.true in
    let nothing : c.read_line_beside.new.line.items ≡ [] = nil_from_length _ (omega (arith, c.in-Ok.ensures.ok, c.clear.ensures.len, none, c.read_line_beside.new.line.ok.0)) in
    let start : c.clear.new.self.items ≡ [] = c.clear.ensures.items in
    let consumed : Consumes (g.S.LiveLines.remaining c.by_line.input) (g.S.LiveLines.remaining c.read_line_beside.new.self) c.read_line_beside.new.line.items = rw start at c.in-Ok.ensures.none_lost in
    record {
      sent = sent_all _ _ c.by_line.invariant.live.so_far consumed nothing (c.in-Ok.ensures.end none);
      live = live-read _ c.by_line.invariant.live c.in-Ok.ensures.step c.by_line.invariant.flushed refl;
      flushed = c.by_line.invariant.flushed;
    }

-- a line was read, and was sent or skipped
pub by_line-preserved : goal.by_line-preserved
by_line-preserved g c =
    -- the bytes that `send_text` wrote for the line; before the read, the line was cleared (`start`), so it has only
    -- the bytes of this read, and isn't empty (`some`)
    let sent = c.in_ok-send_text.ensures.sent in
    let line : List ℕ = c.read_line_beside.new.line.items in
    let start : c.clear.new.self.items ≡ [] = c.clear.ensures.items in
    let some : line ≢ [] = (λ none. let more = c.if-count-eq0.false in let l : length line ≡ 0 = ap length none in absurd (more (omega (arith, c.in-Ok.ensures.ok, c.clear.ensures.len, l, c.read_line_beside.new.line.ok.0)))) in
    -- the line ends at the first newline or at the end of the input (`stops`, `through`), and the read consumed exactly
    -- its bytes (`consumed`)
    let stops : StopsAt line 10 = rw start at c.in-Ok.ensures.stops in
    let through : IfSome (g.S.LiveLines.remaining c.by_line.input) (λ xs. line ≡ take_through 10 xs) = rw start at c.in-Ok.ensures.bytes in
    let consumed : Consumes (g.S.LiveLines.remaining c.by_line.input) (g.S.LiveLines.remaining c.read_line_beside.new.self) line = rw start at c.in-Ok.ensures.none_lost in
    -- the clauses of `send_text`, with the line without its newline as the text
    let written = rw (c.without_newline.ensures.text, c.deref.ensures.value) at sent.1 in
    let returned = rw (c.without_newline.ensures.text, c.deref.ensures.value) at c.in_ok-send_text.ensures.returned in
    -- the read of this line, with the output at the time of the read; the run is live with it (`live`), and the reads
    -- returned the lines so far and this line (`same`)
    let read : Read ℕ = record { back = writer_buffer c.by_line.output; written = g.W.Write.contents (writer_inner c.by_line.output); came = line } in
    let step : g.S.LiveLines.step c.by_line.input read c.read_line_beside.new.self = rw start at c.in-Ok.ensures.step in
    let live = live-read read c.by_line.invariant.live step c.by_line.invariant.flushed refl in
    let same : came live.reads ≡ c.by_line.invariant.live.so_far.lines ++ line ∷ [] = came-push c.by_line.invariant.live.live.reads read ∙ ap (λ (ls : List (List ℕ)). ls ++ line ∷ []) c.by_line.invariant.live.same in
    elim c.if-not-branch.branch [
      -- the line couldn't be sent, so the flag is now false
      | then-not-branch w ↦ record {
        live = record { live = live; same = same; so_far = SentSoFar-skipped line sent.0 c.by_line.invariant.live.so_far some through c.in-Ok.ensures.rest stops consumed written sent.2 _ w.all_sent-is (λ sendable. let yes = returned.1 sendable in let no = w.if-not-branch.true in cc) };
        flushed = c.in_ok-send_text.ensures.flushed;
      }
      -- the line was sent, and the flag is as before
      | else-not-branch w ↦ record {
        live = record { live = live; same = same; so_far = SentSoFar-more line sent.0 c.by_line.invariant.live.so_far some through c.in-Ok.ensures.rest stops consumed written sent.2 _ w.all_sent-is (returned.0 w.if-not-branch.false) };
        flushed = c.in_ok-send_text.ensures.flushed;
      }
    ]

-- a read failed: its bytes were read and not sent
pub returns-in_default : goal.returns-in_default
returns-in_default g c =
    record {
      sent = unsent _ _ _ c.by_line.invariant.live.so_far (rw c.clear.ensures.items at c.in_default.ensures.stops) (rw c.clear.ensures.items at c.in_default.ensures.none_lost) (Keeps-refl _);
      live = live-read _ c.by_line.invariant.live c.in_default.ensures.step c.by_line.invariant.flushed refl;
      flushed = c.by_line.invariant.flushed;
    }

-- sending a line failed, because of a fault
pub returns-in_err-send_text-clause-sent : goal.returns-in_err-send_text-clause-sent
returns-in_err-send_text-clause-sent g c =
    send_failed _ _ _ _ (search rules) c.by_line.invariant.live.so_far (rw c.clear.ensures.items at c.in-Ok.ensures.stops) (rw c.clear.ensures.items at c.in-Ok.ensures.none_lost)

-- the greatest number of lines was read, and all of them were sent or skipped
pub returns-clause-sent : goal.returns-clause-sent
returns-clause-sent g c = unsent _ _ [] c.by_line.invariant.live.so_far (All-nil (λ (b : ℕ). b ≢ 10)) (Consumes-nil _) (Keeps-refl _)

-- the run was live up to the read of the line that couldn't be sent because of a fault
pub returns-in_err-send_text-clause-live : goal.returns-in_err-send_text-clause-live
returns-in_err-send_text-clause-live g c = live-read _ c.by_line.invariant.live c.in-Ok.ensures.step c.by_line.invariant.flushed refl
