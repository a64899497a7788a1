-- `push` returns an error if and only if there is no room (`room`). If it succeeds, the open block is within the buffer
-- (`within`), so `finalize` succeeds too (`place`).
use Rattle.std.proofs.Common.{refl}
use Rattle.std.proofs.lemmas.Result.{err_from_is_err_and}
use Rattle.cobs_vectors.proofs.own_coders.end_with.Goals as goal

-- `push` failed; `p` says that `?` returned the error of `push`
pub returns-in_err-push : goal.returns-in_err-push
returns-in_err-push c =
    let p = err_from_is_err_and c.from_residual.result c.from_residual.ensures.1 in
    rw p.1 (λ ok. cc, λ room. c.in_err-push.ensures.room.1 room)

-- `push` succeeded
pub returns : goal.returns
returns c = (λ ok. c.in_ok-push.ensures.room.0 refl, λ room. c.finalize.ensures.place.1 c.in_ok-push.ensures.within)
