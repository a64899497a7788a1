-- By `pushed` and `pushed_only` of `law_18`, a message is returned if and only if the piece reads as this message and
-- the message fits the buffer (`reported`).
-- `law_18`: Streaming decoders return the message of each frame, and no other message.
use Rattle.std.proofs.Common.{◌↔◌, ◌<◌, ◌≤◌, List, ℕ, length}
use Rattle.std.proofs.lemmas.List.Elements.{All-from_get_or}
use Rattle.cobs.specs.Grammar.{Reads}
use Rattle.cobs.specs.Headline.{PushesMessage}
use Rattle.cobs_vectors.proofs.receivers.push_reads_unbuffered.Goals as goal
use Rattle.cobs_vectors.proofs.receivers.push_reads_unbuffered.Goals.{After-push}

-- `pushed` and `pushed_only` of `law_18` together: the push returned m if and only if the piece reads as m and m fits
-- the buffer
reported : (c : After-push) (m : List ℕ) → PushesMessage c.push.result c.push.new.dest m ↔ (Reads c.args.piece.now m × (length m ≤ length c.args.dest.now))
reported c m =
    -- each byte is below 256 (`below`), and the new decoder is idle (`idle`), as the fields of `law_18` require
    let below = All-from_get_or (λ b. b < 256) c.args.ended.now 0 (λ i within. (c.type_inv.ended i).fits) in
    let pushes = c.push.ensures.pushes in
    let idle = c.new.ensures.idle in (
      c.law_18.ensures.pushed_only _ _ c.args.ended.now c.args.piece.now m _ _ _ pushes idle c.requires.ended below c.requires.piece,
      λ r. c.law_18.ensures.pushed _ _ c.args.ended.now c.args.piece.now m _ _ _ pushes idle c.requires.ended below r.0 r.1,
    )

-- the push returned a report
pub returns-in-Ok-Some : goal.returns-in-Ok-Some
returns-in-Ok-Some c = λ m.
    rw c.frame_size.ensures.size (rw (c.in-Ok-Some.is, c.in-Ok-Some.field-0-is) at (reported (goal.at.returns-in-Ok-Some c).After-push m))

-- the push returned `Ok(None)`, so the piece reads as no message that fits the buffer
pub returns-in-Ok-None : goal.returns-in-Ok-None
returns-in-Ok-None c = λ m. rw (c.in-Ok-None.is, c.in-Ok-None.field-0-is) at (reported (goal.at.returns-in-Ok-None c).After-push m)

-- the push returned an error, so the piece reads as no message that fits the buffer
pub returns-in-Err : goal.returns-in-Err
returns-in-Err c = λ m. rw c.in-Err.is at (reported (goal.at.returns-in-Err c).After-push m)
