-- The fronts of a frame: each clause is a lemma of `JoinLemmas`.
use Rattle.cobs.proofs.format.JoinLemmas.{front_frame, front_message}
use Rattle.cobs.proofs.laws.law_7.Goals as goal

pub returns : goal.returns
returns c = record { frame = front_frame; message = front_message }
