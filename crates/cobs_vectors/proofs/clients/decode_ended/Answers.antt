-- By the clauses `reads` and `only` of the push, a message is returned if and only if the piece reads as this message
-- and the message fits the buffer (`reported`).
use Rattle.std.proofs.Common.{◌≤◌, ◌↔◌, length, List, ℕ, subst, arith}
use Rattle.cobs.specs.Grammar.{Reads}
use Rattle.cobs.specs.Fields.Decoders.{borrowed_buffer}
use Rattle.cobs.specs.Headline.{BeginsWith, PushesMessage}
use Rattle.cobs_vectors.proofs.clients.decode_ended.Goals as goal
use Rattle.cobs_vectors.proofs.clients.decode_ended.Goals.{After-push}

-- the clauses `reads` and `only` of the push together
reported : (c : After-push) (m : List ℕ) → PushesMessage c.push.result (borrowed_buffer c.push.new.self) m ↔ (Reads c.args.piece.now m × (length m ≤ length (borrowed_buffer c.new-decoder.result)))
reported c m =
    let idle = c.new-decoder.ensures.phase in (
      c.push.ensures.only c.args.piece.now m idle c.requires.ended c.requires.piece,
      λ r. c.push.ensures.reads c.args.piece.now m idle c.requires.ended r.0 r.1,
    )

-- the push returned a report
pub returns-in-Ok-Some : goal.returns-in-Ok-Some
returns-in-Ok-Some c = λ m.
    -- the decoder has the caller's slice `dest` at the start and after the push, and `r` is `reported` for this push
    let made = c.new-decoder.ensures.same_slice in
    let pushed = c.push.ensures.same_slice in
    let start = c.new-decoder.ensures.buffer in
    let r = rw (c.in-Ok-Some.is, c.in-Ok-Some.field-0-is, start) at (reported (goal.at.returns-in-Ok-Some c).After-push m) in
    rw c.frame_size.ensures.size (subst (λ (l : List ℕ). BeginsWith l c.in-Ok-Some.report.frame_size m ↔ (Reads c.args.piece.now m × (length m ≤ length c.args.dest.now))) (grind arith) r)

-- the push returned `Ok(None)`, so the piece reads as no message that fits the buffer
pub returns-in-Ok-None : goal.returns-in-Ok-None
returns-in-Ok-None c = λ m.
    rw (c.in-Ok-None.is, c.in-Ok-None.field-0-is, c.new-decoder.ensures.buffer) at (reported (goal.at.returns-in-Ok-None c).After-push m)

-- the push returned an error, so the piece reads as no message that fits the buffer
pub returns-in-Err : goal.returns-in-Err
returns-in-Err c = λ m.
    rw (c.in-Err.is, c.new-decoder.ensures.buffer) at (reported (goal.at.returns-in-Err c).After-push m)
