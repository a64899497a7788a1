-- The parts of the object are written one after another (`Appends-trans`). `numbered` is the part up to the number; no
-- time follows it, because the piece is untimed. `kind` is the kind and the message. The write of the last part may
-- fail (`on_ok`).
use Rattle.std.proofs.KnownBytes.{Appends-nil, Appends-trans}
use Rattle.cobs_live.proofs.ComposedLemmas.{on_ok}
use Rattle.cobs_live.proofs.composed.Composed.put_json.Goals as goal

pub returns : goal.returns
returns c =
    let numbered = Appends-trans _ _ _ _ _ (Appends-trans _ _ _ _ _ c.in_ok-put.ensures.put c.in_ok-put_decimal.ensures.put) (Appends-nil _) in
    let kind = Appends-trans _ _ _ _ _ c.in_ok-put-3.ensures.put c.in_ok-put_json_message.ensures.put in
    record {
      put = λ times. rw c.requires.message (on_ok c.put-4.result
          (λ last. Appends-trans _ _ _ _ _ (Appends-trans _ _ _ _ _ (Appends-trans _ _ _ _ _ numbered c.in_ok-put-2.ensures.put) kind) last) c.put-4.ensures.put);
    }
