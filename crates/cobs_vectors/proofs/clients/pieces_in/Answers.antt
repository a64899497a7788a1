-- The found pieces and the begun bytes are those of t, the stream up to the loop's next byte (the invariant). One byte
-- more changes them in one of three ways: a nonzero byte joins the begun piece (`joins`), a zero ends it (`ends_one`),
-- or a zero ends nothing (`ends_none`). These lemmas follow from the fields of `law_9`.
-- `law_9`: A stream may be cut anywhere.
use Rattle.std.proofs.Common.{◌≡◌, ◌≢◌, ℕ, ◌+◌, List, [], ◌∷◌, ◌++◌, get_or, length, take, take_all, sym, ap, ◌∙◌, append_assoc, append-nil, arith}
use Rattle.std.proofs.lemmas.List.{length-map, map-append, nil_from_length, take_more}
use Rattle.std.proofs.lemmas.List.Elements.{All-push}
use Rattle.cobs.specs.Grammar.{HasNoZero}
use Rattle.cobs.specs.Laws.{StreamLaw}
use Rattle.cobs.specs.Stream.{but_last, ended_pieces, outcome_of, stream_outcomes, unended}
use Rattle.cobs_vectors.proofs.clients.pieces_in.Goals as goal
use Rattle.cobs_vectors.proofs.clients.pieces_in.Goals.{then-byte-ne0+in_ok-push, else-byte-ne0+then-not-is_empty+in_ok-push-2, else-byte-ne0+else-not-is_empty}

-- t is the stream up to a byte
module _ (law : StreamLaw) where
  -- no piece has ended in bytes without a zero
  no_piece : (t : List ℕ) → HasNoZero t → ended_pieces t ≡ []
  unfolding stream_outcomes
  no_piece t h = nil_from_length (ended_pieces t) (sym (length-map (ended_pieces t) (λ p. outcome_of p 0)) ∙ ap length (law.none t 0 h))

  -- a nonzero byte after t ends no piece, and joins the unended bytes
  joins : (t : List ℕ) (b : ℕ) → b ≢ 0 → (ended_pieces t ≡ ended_pieces (t ++ b ∷ [])) × (unended t ++ b ∷ [] ≡ unended (t ++ b ∷ []))
  joins t b h =
      let more : HasNoZero (unended t ++ b ∷ []) = All-push (λ x. x ≢ 0) (unended t) b (law.begun t) h in
      (sym (law.pieces t (b ∷ []) ∙ ap (λ x. ended_pieces t ++ x) (no_piece _ more) ∙ append-nil (ended_pieces t)), sym (law.left t (b ∷ []) ∙ law.same _ more))

  -- if t has no unended byte, a zero after t ends no piece
  ends_none : (t : List ℕ) → unended t ≡ [] → ended_pieces t ≡ ended_pieces (t ++ 0 ∷ [])
  unfolding ended_pieces but_last
  ends_none t none = grind (arith, append-nil)

  -- if t has unended bytes, a zero after t ends the piece that consists of them
  ends_one : (t : List ℕ) → unended t ≢ [] → ended_pieces t ++ unended t ∷ [] ≡ ended_pieces (t ++ 0 ∷ [])
  ends_one t some = grind arith

-- before the first byte, t consists of the begun bytes, in which no piece has ended
pub by_byte-init : goal.by_byte-init
by_byte-init c = grind (arith, append-nil, no_piece)

pub by_byte-preserved : goal.by_byte-preserved
by_byte-preserved c =
    let law : StreamLaw = c.law_9.ensures in
    let chunk : List ℕ = c.args.chunk.now in
    let i : ℕ = c.by_byte.byte-index in
    -- the stream up to the loop's next byte, and the stream with this byte (`next`)
    let t : List ℕ = c.args.begun.now.items ++ take i chunk in
    let next : c.args.begun.now.items ++ take (i + 1) chunk ≡ t ++ get_or chunk i 0 ∷ []
    = ap (λ x. c.args.begun.now.items ++ x) (take_more chunk i 0 c.by_byte-test.true) ∙ sym (append_assoc c.args.begun.now.items (take i chunk) _) in
    rw next (elim c.if-byte-ne0.branch [
      -- a nonzero byte was pushed to the begun bytes
      | then-byte-ne0+in_ok-push w ↦
          let more = joins law t _ w.if-byte-ne0.true in
          (rw (w.found-is, c.by_byte.invariant.0) more.0, rw (w.begun-is, w.in_ok-push.ensures.items, c.by_byte.invariant.1) more.1)
      -- a zero: the begun bytes were moved to the found pieces, and no byte is begun
      | else-byte-ne0+then-not-is_empty+in_ok-push-2 w ↦
          let some : c.by_byte.begun.items ≢ [] = λ e. (let l = w.if-not-is_empty.ensures in grind (arith, l, e)) in
          let one = ends_one law t (λ e. some (c.by_byte.invariant.1 ∙ e)) in (
            rw (w.if-byte-ne0.false, w.found-is, w.in_ok-push-2.ensures.items, map-append, w.replace.ensures.value, c.by_byte.invariant.0, c.by_byte.invariant.1) one,
            rw (w.if-byte-ne0.false, w.begun-is, w.replace.ensures.after, w.new.ensures.items) (sym (law.ended t)),
          )
      -- a zero, without begun bytes: nothing changed
      | else-byte-ne0+else-not-is_empty w ↦
          let none : c.by_byte.begun.items ≡ [] = (let l = w.if-not-is_empty.ensures in grind (arith, l, nil_from_length)) in
          let left : unended t ≡ [] = sym c.by_byte.invariant.1 ∙ none in
          (rw (w.if-byte-ne0.false, w.found-is, c.by_byte.invariant.0) (ends_none law t left), rw (w.if-byte-ne0.false, w.begun-is, none) (sym (law.ended t)))
    ])

-- after the loop, t has all bytes of the chunk
pub returns-clause-pieces : goal.returns-clause-pieces
returns-clause-pieces c = grind (arith, take_all)

pub returns-clause-begun : goal.returns-clause-begun
returns-clause-begun c = grind (arith, take_all)
