-- If the call returned a message, it is m if and only if the piece reads as m (`only`, `reads`). If the call returned
-- an error, the piece reads as no message, since `reads` says that the call would have returned it.
use Rattle.cobs_vectors.proofs.receivers.message_in_place.Goals as goal

pub returns-in-Ok : goal.returns-in-Ok
returns-in-Ok c = λ m. (λ begins. c.in-Ok.ensures.only c.requires m begins, λ reads. c.in-Ok.ensures.reads m reads)

pub returns-in-Err : goal.returns-in-Err
returns-in-Err c = λ m. (λ none. absurd none, λ reads. c.in-Err.ensures.reads m reads)
