-- Lemmas for `decode_first`. An idle decoder gets a source by `feed_piece`. If a zero ends a piece, this piece is the
-- first piece of the source (`taken-some`). Otherwise the source consists of zeros and then the first piece, or of zeros
-- only, and a zero after the source would end this piece (`taken-none`). By `opened-first`: a stream in which no piece
-- has ended consists of zeros and its unended bytes.
use Rattle.std.proofs.Common.{◌≡◌, ◌≢◌, ◌∙◌, ◌+◌, ◌<◌, ◌≤◌, ℕ, zero, suc, List, [], ◌∷◌, ◌++◌, length, take, drop, get_or, Option, Some, None, refl, sym, ap, arith, append_assoc, length-append, length-take-le, take-append-drop, take_all, ◌⊎◌, inl, inr}
use Rattle.std.proofs.lemmas.Bool.{cases_lt}
use Rattle.std.proofs.lemmas.List.{append-nil}
use Rattle.std.proofs.lemmas.List.Elements.{All-nil}
use Rattle.cobs.specs.Decode.{first_output, leading_zeros, len_through_piece}
use Rattle.cobs.specs.Feed.{Phase, Idle, DecoderAfter, fed_result, result_at_end}
use Rattle.cobs.specs.FeedPiece.{TakesPiece, EndsPiece, IsWithin, end_reported, outcome_at}
use Rattle.cobs.specs.FirstPiece.{end_of_first, end_with}
use Rattle.cobs.specs.Grammar.{HasNoZero}
use Rattle.cobs.specs.Overwritten.{overwritten}
use Rattle.cobs.specs.Piece.{output}
use Rattle.cobs.specs.Step.{end_result}
use Rattle.cobs.specs.Push.{last_piece}
use Rattle.cobs.specs.Stream.{Outcome, Message, Broken, TooLong, outcome_of, but_last, ended_pieces, unended, first_piece, head, stream_outcomes}
use Rattle.cobs.specs.declared.dec.frame_decoder.PieceEnd.{PieceEnd}
use Rattle.cobs.specs.declared.dec.frame_decoder.PieceEnd.TheVariants as ends
use Rattle.cobs.proofs.decoding.HeadLemmas.{first_piece_behind, first_piece_empty, head-cut, head-front}
use Rattle.cobs.proofs.decoding.OutcomeLemmas.{first_piece_head, head-append, head-zero, head_nonzero}
use Rattle.cobs.proofs.format.StreamLemmas.{ended_pieces-append, ended_pieces-piece, outcomes_at, stream_outcomes-push, unended-append, unended-no_zero, unended-zero}
use Rattle.cobs.proofs.decoding.OutcomeSteps.{overwritten-none}
use Rattle.cobs.proofs.decoding.PieceCuts.{output-empty}
use Rattle.cobs.proofs.streaming.FeedLemmas.{DecoderAfter-idle, end_result-is}
use Rattle.cobs.proofs.streaming.LastPiece.{last_piece-unended, last_piece-zero}
use Rattle.cobs.proofs.streaming.SoFar.{no_outcomes}

-- a zero before a stream ends no piece, and changes neither the ended pieces, the unended bytes nor the first piece
ended-one : ended_pieces (0 ∷ []) ≡ []
unfolding ended_pieces but_last
ended-one = refl

ended-zero : (t : List ℕ) → ended_pieces (0 ∷ t) ≡ ended_pieces t
ended-zero t = grind (arith, ended_pieces-append (0 ∷ []) t, ended-one, unended-zero [])

unended-after_zero : (t : List ℕ) → unended (0 ∷ t) ≡ unended t
unended-after_zero t = grind (arith, unended-append (0 ∷ []) t, unended-zero [])

first-zero : (t : List ℕ) → first_piece (0 ∷ t) ≡ first_piece t
first-zero t = grind (arith, first_piece_behind (0 ∷ t), first_piece_behind t)

-- if no piece has ended in a stream that begins with a nonzero byte, the stream has no zero
all-open : (byte : ℕ) (bytes : List ℕ) → byte ≢ 0 → ended_pieces (byte ∷ bytes) ≡ [] → HasNoZero (byte ∷ bytes)
all-open byte bytes other none =
    let t : List ℕ = byte ∷ bytes in
    let h : List ℕ = head t in
    elim (cases_lt (length h) (length t)) [
      -- a zero would end the bytes before it, which are a piece
      | inl less ↦ absurd (grind (arith, append_assoc, head-cut t less, ended_pieces-append (h ++ 0 ∷ []) (drop (length h + 1) t), ended_pieces-piece h, head_nonzero t, first_piece_head byte bytes other))
      | inr all ↦ rw (take_all (length h) t all) at (rw (← head-front t) at (head_nonzero t))
    ]

-- no byte of a list that is empty or begins with a zero comes before its first zero
nothing : (tail : List ℕ) → (0 < length tail → get_or tail 0 0 ≡ 0) → head tail ≡ []
unfolding head
nothing [] stop = refl
nothing (zero ∷ t) stop = head-zero t
nothing (suc b ∷ t) stop = absurd (omega (arith, stop (omega arith)))

-- `tail` is empty or begins with a zero
module _ (tail : List ℕ) (stop : 0 < length tail → get_or tail 0 0 ≡ 0) where
  -- if no piece has ended in `front`, and there are unended bytes, these are the first piece, after zeros
  opened-first : (front : List ℕ) → ended_pieces front ≡ [] → unended front ≢ []
      → (first_piece (front ++ tail) ≡ Some (unended front)) × (leading_zeros (front ++ tail) + length (unended front) ≡ length front)
  opened-first [] none begun = absurd (begun (unended-no_zero [] (All-nil _)))
  opened-first (zero ∷ t) none begun =
      let rest = opened-first t (sym (ended-zero t) ∙ none) (λ e. begun (unended-after_zero t ∙ e)) in
      grind (arith, first-zero, unended-after_zero)
  opened-first (suc b ∷ t) none begun =
      let p : List ℕ = suc b ∷ t in
      let nz = all-open (suc b) t (omega arith) none in
      grind (arith, unended-no_zero p nz, first_piece_head (suc b) (t ++ tail), head-append p tail nz, nothing tail stop, append-nil)

-- if no piece has ended in a stream, and it has no unended bytes, it has no piece
none-opened : (t : List ℕ) → ended_pieces t ≡ [] → unended t ≡ [] → first_piece t ≡ None
none-opened [] none empty = first_piece_empty [] refl
none-opened (zero ∷ t) none empty = first-zero t ∙ none-opened t (sym (ended-zero t) ∙ none) (sym (unended-after_zero t) ∙ empty)
none-opened (suc b ∷ t) none empty = absurd (grind (arith, unended-no_zero (suc b ∷ t) (all-open (suc b) t (omega arith) none)))

-- the result and the buffer are those of the source's first piece, as the contract of `decode_first` states
abbrev pub Ended : List ℕ → List ℕ → List ℕ → Option (PieceEnd × ℕ) → Type 0
Ended source old new result = record { answer : result ≡ end_of_first source (length old); buffer : new ≡ overwritten old (first_output source) }

-- p is the first piece of the source
module _ (source p old new : List ℕ) (found : first_piece source ≡ Some p) where
  ended-by : (end : PieceEnd) (count : ℕ) → end ≡ end_with (outcome_of p (length old)) → count ≡ len_through_piece source p → new ≡ overwritten old (output p) → Ended source old new (Some (end, count))
  ended-by end count is place written = grind arith

-- the end that an outcome of the buffer's bytes means
end-by : (end : PieceEnd) (buffer : List ℕ) → IsWithin (length buffer) end → end_with (outcome_at end buffer) ≡ end
end-by (ends.Message n) buffer fits = ap ends.Message (length-take-le n buffer fits)
end-by (ends.Broken count) buffer fits = refl
end-by ends.TooLong buffer fits = refl

-- the result for a zero after a piece reports the end of the piece
reported-by : (outcome : Outcome) → end_reported (fed_result outcome) ≡ Some (end_with outcome)
reported-by (Message message) = refl
reported-by (Broken count) = refl
reported-by TooLong = refl

end-after : (p : List ℕ) (n : ℕ) → p ≢ [] → end_reported (result_at_end p n) ≡ Some (end_with (outcome_of p n))
unfolding result_at_end
end-after [] n begun = absurd (begun refl)
end-after (byte ∷ p) n begun = reported-by (outcome_of (byte ∷ p) n)

no-end : (n : ℕ) → end_reported (result_at_end [] n) ≡ None
unfolding result_at_end
no-end n = refl

-- the bytes of a piece add an outcome if a zero follows them
outcome-is : (p : List ℕ) (n : ℕ) (outcome : Outcome) → outcome ∷ [] ≡ outcomes_at p 0 n → (p ≢ []) × (outcome ≡ outcome_of p n)
outcome-is [] n outcome is = grind arith
outcome-is (byte ∷ p) n outcome is = ((λ e. grind arith), grind arith)

empty-or-not : (xs : List ℕ) → (xs ≡ []) ⊎ (xs ≢ [])
empty-or-not [] = inl refl
empty-or-not (x ∷ xs) = inr (λ e. grind arith)

-- the decoder was idle, so no byte of a piece had been fed before the source
idle : (old : List ℕ) → DecoderAfter old Idle []
idle old = DecoderAfter-idle old Idle refl

module _ {source old new : List ℕ} {phase' : Phase} where
  -- a zero ends a piece: it is the first piece of the source
  pub taken-some : (end : PieceEnd) (count : ℕ) → TakesPiece old Idle source (Some (end, count)) new phase' → Ended source old new (Some (end, count))
  taken-some end count t =
      let n : ℕ = length old in
      let e : EndsPiece n Idle source count = t.ends in
      let within : count ≤ length source = t.within.0 in
      -- no piece has ended in the bytes before the zero, which are `e.front`
      let nothing-before : stream_outcomes e.front n ≡ [] = e.none_before [] (idle old).phased in
      let none : ended_pieces e.front ≡ [] = no_outcomes e.front n nothing-before in
      -- the zero reports the outcome of their unended bytes
      let reported : outcome_at end new ∷ [] ≡ outcomes_at (unended e.front) 0 n = t.takes.outcomes [] (idle old) ∙ ap (λ (x : List ℕ). stream_outcomes x n) e.taken ∙ stream_outcomes-push e.front 0 n ∙ ap (λ (x : List Outcome). x ++ outcomes_at (unended e.front) 0 n) nothing-before in
      let is = outcome-is (unended e.front) n (outcome_at end new) reported in
      -- so these are the first piece
      let cut : e.front ++ 0 ∷ drop count source ≡ source = grind (arith, append_assoc, take-append-drop count source, e.taken) in
      let first = rw cut at (opened-first (0 ∷ drop count source) (λ _. refl) e.front none is.0) in
      let long : count ≡ length e.front + 1 = omega (arith, length-take-le count source within, ap length e.taken, length-append e.front (0 ∷ [])) in
      let last : last_piece (take count source) ≡ unended e.front = ap last_piece e.taken ∙ last_piece-zero e.front none in
      let written : new ≡ overwritten old (output (unended e.front)) = rw last at (t.holds [] (idle old)) in
      let fits : IsWithin (length new) end = rw (sym t.takes.len) at t.within.1 in
      ended-by source (unended e.front) old new first.0 end count (sym (end-by end new fits) ∙ ap end_with is.1) (omega (arith, long, first.1, within)) written

  -- no zero ends a piece
  module _ (t : TakesPiece old Idle source None new phase') where
    none-ended : ended_pieces source ≡ []
    none-ended = no_outcomes source (length old) (sym (t.takes.outcomes [] (idle old)))

    -- the unended bytes are written to the buffer
    written-last : new ≡ overwritten old (output (unended source))
    written-last = rw (last_piece-unended source none-ended) at (t.holds [] (idle old))

    -- the result for a zero after the source is the result for the unended bytes
    ended-with : end_result (length new) phase' ≡ result_at_end (unended source) (length old)
    ended-with = let after = t.takes.after [] (idle old) in rw (after.phased.phase_is, t.takes.len) (end_result-is (length old) (unended source))

    -- a zero after the source would end no piece, so the source has no piece
    pub taken-none : end_reported (end_result (length new) phase') ≡ None → Ended source old new None
    taken-none e = elim (empty-or-not (unended source)) [
      | inl empty ↦
          let none : first_piece source ≡ None = none-opened source none-ended empty in
          let written : new ≡ old = rw empty at written-last ∙ ap (overwritten old) (output-empty [] refl) ∙ overwritten-none old in
          grind (arith, overwritten-none old)
      | inr begun ↦ absurd (grind (arith, ended-with, end-after (unended source) (length old) begun))
    ]

    -- a zero after the source would end its first piece
    pub taken-last : (end : PieceEnd) → end_reported (end_result (length new) phase') ≡ Some end → Ended source old new (Some (end, length source))
    taken-last end e = elim (empty-or-not (unended source)) [
      | inl empty ↦ absurd (grind (arith, ended-with, no-end))
      | inr begun ↦
          let first = rw (append-nil source) at (opened-first [] (λ more. grind arith) source none-ended begun) in
          let is : end ≡ end_with (outcome_of (unended source) (length old)) = grind (arith, ended-with, end-after (unended source) (length old) begun) in
          ended-by source (unended source) old new first.0 end (length source) is (omega (arith, first.1)) written-last
    ]
