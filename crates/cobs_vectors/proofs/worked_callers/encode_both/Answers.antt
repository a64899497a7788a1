-- After the first push the encoder has taken the first chunk, and after the second push both chunks, by the clause
-- `taken`. So the clauses `fits` and `frame` of the second push and of `finalize` are about the whole message.
use Rattle.std.proofs.Common.{List, take, ◌≤◌, ◌≡◌, ℕ, [], ◌++◌, length, refl, ap, arith, sym, subst}
use Rattle.std.proofs.lemmas.Result.{err_from_is_err_and}
use Rattle.cobs.specs.Grammar.{IsEncodedFrame}
use Rattle.cobs.specs.Length.{encoded_len}
use Rattle.cobs_vectors.proofs.worked_callers.encode_both.Goals as goal

-- the first push failed: if the whole frame fitted, the frame of the first chunk would fit too (`more`), and the push
-- wouldn't fail. `p` says that `?` returned the error of the push.
pub returns-in_err-push-clause-fits : goal.returns-in_err-push-clause-fits
returns-in_err-push-clause-fits c =
    let p = err_from_is_err_and c.from_residual.result c.from_residual.ensures.1 in
    rw p.1 (
      λ e. cc,
      λ le.
          let more = c.law_4.ensures.grows c.args.first.now c.args.second.now in
          let unchanged = c.new-encoder.ensures.unchanged in
          (c.in_err-push.ensures.fits [] c.new-encoder.ensures.taken).1 (subst (λ l. encoded_len c.args.first.now ≤ length l) (sym unchanged) (omega arith)),
    )

-- both pushes succeeded, so the whole frame fits
pub returns-clause-fits : goal.returns-clause-fits
returns-clause-fits c = (
  λ e.
      let taken = c.in_ok-push.ensures.taken [] c.new-encoder.ensures.taken in
      let le = (c.in_ok-push-2.ensures.fits c.args.first.now taken).0 refl in
      let l = c.in_ok-push.ensures.len in
      let unchanged : length c.new-encoder.result.dest.now ≡ length c.args.dest.now = ap length c.new-encoder.ensures.unchanged in
      omega arith,
  λ e. refl,
)

-- the written bytes are the frame of both chunks (`done`); the encoder has the caller's slice `dest` after each push
-- (`made`, `first`, `second`)
pub returns-clause-frame : goal.returns-clause-frame
returns-clause-frame c =
    let taken = c.in_ok-push.ensures.taken [] c.new-encoder.ensures.taken in
    let done = c.finalize.ensures.frame (c.args.first.now ++ c.args.second.now) (c.in_ok-push-2.ensures.taken c.args.first.now taken) in
    let made = c.new-encoder.ensures.same_slice in
    let first = c.in_ok-push.ensures.same_slice in
    let second = c.in_ok-push-2.ensures.same_slice in
    subst (λ (l : List ℕ). IsEncodedFrame (take c.finalize.result l) (c.args.first.now ++ c.args.second.now)) (grind arith) done
