-- The encoder has taken both chunks, so `finalize` writes the frame of the whole message. No call changes the bytes
-- after the frame so far (`drop_later`).
use Rattle.std.proofs.Common.{List, take, drop, ◌≤◌, ◌≡◌, ◌+◌, ◌-◌, ℕ, [], ◌++◌, ap, arith, sym, subst, ◌∙◌}
use Rattle.std.proofs.lemmas.List.{drop-drop}
use Rattle.cobs.specs.Grammar.{IsEncodedFrame}
use Rattle.cobs.specs.Length.{encoded_len}
use Rattle.cobs_vectors.proofs.clients.encode_two.Goals as goal

-- lists that are equal from an index on are equal from each later index on
drop_later : (a b : ℕ) (xs ys : List ℕ) → a ≤ b → drop a xs ≡ drop a ys → drop b xs ≡ drop b ys
drop_later a b xs ys h e =
    let k : b ≡ a + (b - a) = omega arith in
    ap (λ (n : ℕ). drop n xs) k ∙ sym (drop-drop (b - a) a xs) ∙ ap (drop (b - a)) e ∙ drop-drop (b - a) a ys ∙ ap (λ (n : ℕ). drop n ys) (sym k)

-- the written bytes are the frame of both chunks
pub returns-clause-frame : goal.returns-clause-frame
returns-clause-frame c =
    -- after the first push, the encoder has taken the first chunk
    let taken = c.in_ok-push.ensures.taken [] c.new-encoder.ensures.taken in
    let done = c.finalize.ensures.frame (c.args.first.now ++ c.args.second.now) (c.in_ok-push-2.ensures.taken c.args.first.now taken) in
    -- the encoder has the caller's slice `dest` at the start, and after each push
    let made = c.new-encoder.ensures.same_slice in
    let first = c.in_ok-push.ensures.same_slice in
    let second = c.in_ok-push-2.ensures.same_slice in
    subst (λ (l : List ℕ). IsEncodedFrame (take c.finalize.result l) (c.args.first.now ++ c.args.second.now)) (grind arith) done

-- the bytes after the frame are unchanged
pub returns-clause-rest : goal.returns-clause-rest
returns-clause-rest c =
    -- the message; after both pushes the encoder has taken it (`all`), and `finalize` returned the length of its frame
    -- (`len`)
    let both : List ℕ = c.args.first.now ++ c.args.second.now in
    let taken = c.in_ok-push.ensures.taken [] c.new-encoder.ensures.taken in
    let all = c.in_ok-push-2.ensures.taken c.args.first.now taken in
    let len = c.finalize.ensures.len both all in
    let more = c.law_4.ensures.grows c.args.first.now c.args.second.now in
    -- after the first push, after the second push, and after `finalize` (`done`), the bytes after the whole frame are
    -- unchanged; `more` says that the frame of the first chunk isn't longer than the whole frame
    let first = drop_later (encoded_len c.args.first.now) (encoded_len both) _ _ more (c.in_ok-push.ensures.rest [] c.new-encoder.ensures.taken ∙ ap (drop (encoded_len c.args.first.now)) c.new-encoder.ensures.unchanged) in
    let second = c.in_ok-push-2.ensures.rest c.args.first.now taken ∙ first in
    let done = c.finalize.ensures.rest ∙ subst (λ (n : ℕ). drop n c.push-2.new.self.dest.now ≡ drop n c.args.dest.now) (sym len) second in
    -- the encoder has the caller's slice `dest` at the start, and after each push
    let made = c.new-encoder.ensures.same_slice in
    let one = c.in_ok-push.ensures.same_slice in
    let two = c.in_ok-push-2.ensures.same_slice in
    subst (λ (l : List ℕ). drop c.finalize.result l ≡ drop c.finalize.result c.args.dest.now) (grind arith) done
