-- In the style JSON, the text is that of `put_json`.
use Rattle.cobs_live.proofs.composed.Composed.put_message.Goals as goal

pub returns-in-Json : goal.returns-in-Json
returns-in-Json c = record { put = λ times. rw c.in-Json.is (c.put_json.ensures.put times) }
