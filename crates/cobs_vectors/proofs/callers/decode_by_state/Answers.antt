-- By the clause `after` of `feed`, each byte leads to the state after the first bytes of the frame, and the vector has
-- the message so far (`StateAfter`). At the end, the clause `message` of `feed` says whether the bytes are a frame, and
-- which message they read as.
use Rattle.std.proofs.Common.{◌≡◌, ◌≢◌, ℕ, true, false, List, [], ◌∷◌, ◌++◌, take, get_or, refl, sym, ap, ◌∙◌, subst, take_all, append-nil}
use Rattle.std.proofs.lemmas.List.{take_more}
use Rattle.std.proofs.lemmas.List.Elements.{All-get_or}
use Rattle.cobs.specs.Table.{data_of, StateAfter}
use Rattle.cobs_vectors.proofs.callers.decode_by_state.Goals as goal
use Rattle.cobs_vectors.proofs.callers.decode_by_state.Goals.{in-Some+in_ok-push, in_default}

-- one more byte of the frame
pub by_byte-preserved : goal.by_byte-preserved
by_byte-preserved c =
    let frame : List ℕ = c.args.frame.now in
    let i : ℕ = c.by_byte.byte-index in
    let byte : ℕ = get_or frame i 0 in
    -- the state after this byte, and the message so far with the byte that the result contains, if any
    let next : StateAfter c.feed.new.self (take i frame ++ byte ∷ []) (c.by_byte.message.items ++ data_of c.feed.result)
    = c.feed.ensures.after (take i frame) c.by_byte.message.items c.by_byte.invariant (All-get_or (λ b. b ≢ 0) frame i 0 c.by_byte-test.true c.requires) in
    -- the vector is this message: either the byte was pushed, or the result contains no byte
    let items : c.match-byte_given.message.items ≡ c.by_byte.message.items ++ data_of c.feed.result = elim c.match-byte_given.branch [
      | in-Some+in_ok-push w ↦ ap (λ v. v.items) w.message-is ∙ w.in_ok-push.ensures.items ∙ ap (λ (l : List ℕ). c.by_byte.message.items ++ l) w.in-Some.ensures
      | in_default w ↦ let given : [] ≡ data_of c.feed.result = w.in_default.ensures in ap (λ v. v.items) w.message-is ∙ sym (append-nil c.by_byte.message.items) ∙ ap (λ (l : List ℕ). c.by_byte.message.items ++ l) given
    ] in
    rw (take_more frame i 0 c.by_byte-test.true, items) next

-- after the whole frame, the state machine says that the message is complete: the message in the vector is the one that
-- the frame reads as
pub returns-then-is_complete : goal.returns-then-is_complete
returns-then-is_complete c =
    let frame : List ℕ = c.args.frame.now in
    -- the loop has fed all bytes of the frame
    let all : take c.by_byte.byte-index frame ≡ frame = take_all c.by_byte.byte-index frame c.by_byte-test.false in
    -- `h` says: the zero completes the message, and the bytes so far are m, if and only if the frame reads as m
    λ m. let h = c.feed-2.ensures.message frame c.by_byte.message.items m (subst (λ (p : List ℕ). StateAfter c.by_byte.state p c.by_byte.message.items) all c.by_byte.invariant) refl in
    let complete = c.is_complete.ensures.0 c.if-is_complete.true in
    (λ is. h.0 (complete, is), λ r. (h.1 r).1)

-- the state machine says that the message isn't complete, so the frame reads as no message
pub returns-else-is_complete : goal.returns-else-is_complete
returns-else-is_complete c =
    let frame : List ℕ = c.args.frame.now in
    -- the loop has fed all bytes of the frame
    let all : take c.by_byte.byte-index frame ≡ frame = take_all c.by_byte.byte-index frame c.by_byte-test.false in
    -- `h` says: the zero completes the message, and the bytes so far are m, if and only if the frame reads as m
    λ m. let h = c.feed-2.ensures.message frame c.by_byte.message.items m (subst (λ (p : List ℕ). StateAfter c.by_byte.state p c.by_byte.message.items) all c.by_byte.invariant) refl in
    (λ none. absurd none, λ r. let reported : true ≡ false = sym (c.is_complete.ensures.1 (h.1 r).0) ∙ c.if-is_complete.false in absurd (cc))
