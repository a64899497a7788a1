-- If the call returned a message, it is m if and only if the piece reads as m (`only`, `reads`). If the call returned
-- an error, the piece reads as no message, since `reads` says that the call would have returned it. `tt` is the premise
-- that memory didn't run out.
use Rattle.cobs_vectors.proofs.receivers.message_of.Goals as goal

pub returns-in-Ok : goal.returns-in-Ok
returns-in-Ok c = λ m. (λ is. c.in-Ok.ensures.only c.requires m is, λ reads. c.in-Ok.ensures.reads tt m reads)

pub returns-in-Err-Decode : goal.returns-in-Err-Decode
returns-in-Err-Decode c = λ m. (λ none. absurd none, λ reads. (rw c.in-Err-Decode.field-0-is at c.in-Err-Decode.ensures.reads) tt m reads)
