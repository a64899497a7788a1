-- The messages of the output so far, followed by the messages among the remaining outcomes, are all messages of the
-- stream. Each iteration removes the first remaining outcome, and appends it to the output if it is a message
-- (`relayed`), by `law_21`.
-- `law_21`: A loop over the pieces of a stream.
use Rattle.std.proofs.Common.{◌≡◌, ◌-◌, ℕ, List, [], ◌∷◌, ◌++◌, length, drop, refl, ◌∙◌, arith, append_assoc, length-take, length-drop}
use Rattle.std.proofs.lemmas.List.{drop-drop, take_rest}
use Rattle.cobs.specs.Stream.{Outcome, Message, Broken, TooLong}
use Rattle.cobs_vectors.specs.Relayed.{messages_of}
use Rattle.cobs_vectors.proofs.clients.relay.Goals as goal

-- the messages among one outcome and more outcomes: those of the one outcome, and then those of the others
first : (o : Outcome) (more : List Outcome) → messages_of (o ∷ []) ++ messages_of more ≡ messages_of (o ∷ more)
first (Message message) more = refl
first (Broken count) more = refl
first TooLong more = refl

-- If the messages `out` of the output, followed by the messages among the remaining outcomes `found`, are `all`, this
-- is still so after the first remaining outcome o is removed, and appended to `out` if it is a message.
relayed : (out out' found more all : List Outcome) (o : Outcome) → out ++ messages_of found ≡ all → found ≡ o ∷ more → out' ≡ out ++ messages_of (o ∷ []) → out' ++ messages_of more ≡ all
relayed out out' found more all o so_far one reported = grind (arith, append_assoc, first)

pub by_piece-preserved : goal.by_piece-preserved
by_piece-preserved g c =
    -- `t` is the contract of `feed_piece` for the bytes from index `at` on
    let inv = c.by_piece.invariant in
    let t = c.in-Some.ensures.takes in
    let at : ℕ = c.by_piece.at in
    let stream : List ℕ = c.args.stream.now in
    let len = t.takes.len ∙ inv.len in
    -- the first remaining outcome is that of the piece that `feed_piece` took, by `outcomes` of `law_21`
    let one = rw (take_rest stream at, inv.len, drop-drop) at (c.law_21.ensures.outcomes _ _ _ _ _ _ _ t inv.idle) in
    record {
      -- the index is still within the stream
      within = omega (arith, t.within.0, length-take (length stream - at) (drop at stream), length-drop at stream, inv.within);
      -- the outcome of this piece is appended to the output if it is a message
      reported = relayed _ _ _ _ _ _ inv.reported one (rw (c.buffer.ensures.value, len) at c.in_ok-out.ensures.reported);
      at_sentinel = c.in_ok-out.ensures.at_sentinel;
      idle = t.idle;
      len = len;
    }
