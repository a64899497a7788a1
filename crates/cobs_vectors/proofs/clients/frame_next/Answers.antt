-- Before the push the encoder has taken nothing, and after the push it has taken the message, by the clause `taken`. So
-- the clauses of `push` and `finalize` are about this message.
use Rattle.std.proofs.Common.{◌≡◌, [], take, refl}
use Rattle.std.proofs.lemmas.Result.{IfOk-weaker, err_from_is_err_and}
use Rattle.cobs.specs.Grammar.{IsEncodedFrame}
use Rattle.cobs.specs.Length.{encoded_len}
use Rattle.cobs_vectors.proofs.clients.frame_next.Goals as goal

-- the push failed, so the frame doesn't fit; `p` says that `?` returned the error of the push
pub returns-in_err-push-clause-fits : goal.returns-in_err-push-clause-fits
returns-in_err-push-clause-fits c =
    let p = err_from_is_err_and c.from_residual.result c.from_residual.ensures.1 in
    rw p.1 (λ e. cc, λ le. (c.in_err-push.ensures.fits [] c.requires.fresh).1 le)

-- the push succeeded: the frame fits, so `finalize` succeeds too
pub returns-clause-fits : goal.returns-clause-fits
returns-clause-fits c =
    let taken = c.in_ok-push.ensures.taken [] c.requires.fresh in
    (λ ok. (c.in_ok-push.ensures.fits [] c.requires.fresh).0 refl, λ le. c.finalize.ensures.fits c.args.message.now taken)

-- the clause `len` of `finalize`, for the message that the encoder has taken (`taken`)
pub returns-clause-len : goal.returns-clause-len
returns-clause-len c =
    let taken = c.in_ok-push.ensures.taken [] c.requires.fresh in
    IfOk-weaker c.finalize.result _ (λ n. n ≡ encoded_len c.args.message.now) (λ n h. h c.args.message.now taken) c.finalize.ensures.len

-- the clause `frame` of `finalize`, for the message that the encoder has taken (`taken`)
pub returns-clause-frame : goal.returns-clause-frame
returns-clause-frame c =
    let taken = c.in_ok-push.ensures.taken [] c.requires.fresh in
    IfOk-weaker c.finalize.result _ (λ n. IsEncodedFrame (take n c.finalize.new.dest) c.args.message.now) (λ n h. h c.args.message.now taken) c.finalize.ensures.frame
