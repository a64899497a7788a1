-- The bytes of a stream that were fed so far, one after another, with the outcomes of the pieces that ended in them
-- (`TakesBytes`): for no byte (`takes-nothing`), for one byte (`TakesBytes-byte`, by `Feeds`), and for more bytes after
-- those so far (`takes-more`, the main lemma). The last part is about a call of `feed_piece` for the bytes from an
-- index on (`takes-all`, `takes-piece`).
use Rattle.std.proofs.Common.{◌≡◌, ◌≢◌, ℕ, zero, suc, ◌+◌, ◌-◌, ◌<◌, ◌≤◌, List, [], ◌∷◌, ◌++◌, length, take, drop, refl, sym, ap, ◌∙◌, arith, append_assoc, length-append, length-take, length-drop, map, inl, inr, ◌⊎◌, Option, Some, None, Result, Ok, Err, cond, eqb}
use Rattle.std.specs.List.{Contains}
use Rattle.std.proofs.lemmas.List.{append-nil, nil_from_length, length-map, take_rest, take_all, take-append-drop}
use Rattle.std.proofs.lemmas.List.Elements.{All-nil, All-append, Contains-push_cases, Contains-append_cases}
use Rattle.std.proofs.lemmas.Bool.{leb-true, eq-eqb, ne_eqb}
use Rattle.std.proofs.Math.Seq.{take-add}
use Rattle.std.proofs.lemmas.Grind.{common_steps}
use Rattle.cobs.specs.Grammar.{HasNoZero}
use Rattle.cobs.specs.Stream.{ended_pieces, unended, Outcome, Message, Broken, outcome_of, stream_outcomes}
use Rattle.cobs.specs.Feed.{Phase, PhaseAfter, DecoderAfter, Feeds, result_for, result_at_end}
use Rattle.cobs.specs.Push.{error_outcomes}
use Rattle.cobs.specs.FeedPiece.{AreAlikeAtFirst, FeedsEach, TakesBytes, TakesPiece, outcome_at, IsWithin, IsCountWithin}
use Rattle.cobs.specs.declared.dec.frame_decoder.PieceEnd.{PieceEnd}
use Rattle.cobs.specs.declared.error.DecodeError.{DecodeError}
use Rattle.cobs.proofs.decoding.OutcomeLemmas.{outcome_says}
use Rattle.cobs.proofs.streaming.FeedLemmas.{DecoderAfter-idle}
use Rattle.cobs.proofs.format.StreamLemmas.{outcomes_at, outcomes_at-nonzero, stream_outcomes-append, stream_outcomes-no_zero, stream_outcomes-push_piece, unended-append, unended-no_zero, unended-push_piece}

-- WHAT IS REPORTED AT A ZERO

-- the outcome that the result for a zero means, a list of at most one outcome; `buffer` is the buffer after this zero
abbrev pub outcome_reported : Result (Option ℕ) DecodeError → List ℕ → List Outcome
outcome_reported (Ok None) buffer = []
outcome_reported (Ok (Some n)) buffer = Message (take n buffer) ∷ []
outcome_reported (Err error) buffer = error_outcomes error

-- the outcome that a byte and its result report
abbrev pub reported_by : ℕ → Result (Option ℕ) DecodeError → List ℕ → List Outcome
reported_by byte result buffer = cond (eqb byte 0) (outcome_reported result buffer) []

-- LISTS OF OUTCOMES, AND BYTES WITH OR WITHOUT A ZERO

-- a list that is alike to the empty list is empty
alike-nil : (xs : List Outcome) → AreAlikeAtFirst xs [] → xs ≡ []
alike-nil xs h = grind arith

-- two lists that are alike are still alike if the same outcomes are appended to both
alike-append : (xs ys zs : List Outcome) → AreAlikeAtFirst xs ys → AreAlikeAtFirst (xs ++ zs) (ys ++ zs)
alike-append xs ys zs h = grind arith

-- if two lists joined are empty, the first is empty
pub left_nothing : (xs ys : List Outcome) → xs ++ ys ≡ [] → xs ≡ []
left_nothing [] ys e = refl
left_nothing (x ∷ xs) ys e = cc

-- a list contains a zero, or no byte of it is a zero
zero_or_none : (xs : List ℕ) → Contains xs 0 ⊎ HasNoZero xs
zero_or_none [] = inr (All-nil (λ b. b ≢ 0))
zero_or_none (zero ∷ xs) = grind arith
zero_or_none (suc b ∷ xs) = elim (zero_or_none xs) [ inl h ↦ inl (suc h.0, omega arith, h.2) | inr h ↦ inr (grind arith) ]

-- THE OUTPUT OF A BROKEN PIECE FITS THE BUFFER

-- if the only outcome of some pieces is a broken piece, the length of its output is at most the buffer's length n
fits-map : (ps : List (List ℕ)) (count n : ℕ) → Broken count ∷ [] ≡ map (λ p. outcome_of p n) ps → count ≤ n
fits-map [] count n e = absurd cc
fits-map (p ∷ ps) count n e = let is : outcome_of p n ≡ Broken count = cc in (let w = outcome_says p n is in omega arith)

-- if the end of a piece reports the first outcome of the stream t, the number that it reports is at most the buffer's
-- length n
pub count-within : (end : PieceEnd) (buffer t : List ℕ) (n : ℕ) → AreAlikeAtFirst (outcome_at end buffer ∷ []) (stream_outcomes t n) → IsWithin n end → IsCountWithin n end
unfolding stream_outcomes
count-within end buffer t n h e = grind (arith, fits-map)

-- BYTES THAT ARE FED ONE AFTER ANOTHER

-- if the bytes `done` are fed one after another, and then the bytes `more`, `FeedsEach` holds for all of them
FeedsEach-append : (done more buffer₀ buffer buffer' : List ℕ) (phase₀ phase phase' : Phase) → FeedsEach buffer₀ phase₀ done buffer phase → FeedsEach buffer phase more buffer' phase'
    → FeedsEach buffer₀ phase₀ (done ++ more) buffer' phase'
FeedsEach-append [] more buffer₀ buffer buffer' phase₀ phase phase' f g = rw (f.0, f.1) at g
FeedsEach-append (byte ∷ done) more buffer₀ buffer buffer' phase₀ phase phase' f g = (f.0, f.1, f.2, f.3, FeedsEach-append done more f.1 buffer buffer' f.2 phase phase' f.4 g)

-- before any byte, no outcome is reported, and nothing has changed
pub takes-nothing : (buffer : List ℕ) (phase : Phase) → TakesBytes buffer phase [] [] buffer phase
takes-nothing buffer phase = grind (arith, append-nil, unended-no_zero, stream_outcomes-no_zero)

-- A BYTE ALONE

-- one byte that is fed
module _ {buffer buffer' : List ℕ} {phase phase' : Phase} {byte : ℕ} {result : Result (Option ℕ) DecodeError} (f : Feeds buffer phase byte result buffer' phase') where
  -- if the decoder had been fed p, the byte reports the outcome of the piece that it ends, or nothing if it ends no
  -- piece
  reported_byte : (p : List ℕ) → DecoderAfter buffer phase p → reported_by byte result buffer' ≡ outcomes_at p byte (length buffer)
  unfolding result_for result_at_end outcome_of
  reported_byte p h = grind (arith, eq-eqb, ne_eqb, take_all, leb-true, outcomes_at-nonzero)

  -- If only the phase is that after p, and the caller has changed the buffer, the reported outcome is alike to that of
  -- the piece. A message then has the right length, but perhaps other bytes.
  alike_byte : (p : List ℕ) → PhaseAfter (length buffer) phase p → AreAlikeAtFirst (reported_by byte result buffer') (outcomes_at p byte (length buffer))
  unfolding result_for result_at_end outcome_of
  alike_byte p h = grind (arith, eq-eqb, ne_eqb, length-take, leb-true, outcomes_at-nonzero)

  -- `TakesBytes` for this byte
  pub TakesBytes-byte : TakesBytes buffer phase (byte ∷ []) (reported_by byte result buffer') buffer' phase'
  -- the unended bytes and the outcomes with this byte are those of a piece with one more byte (`unended-push_piece`,
  -- `stream_outcomes-push_piece`); after a zero, the decoder has begun no piece (`DecoderAfter-idle`)
  TakesBytes-byte = record {
    len = f.len;
    feeds = (result, buffer', phase', f, (refl, refl));
    phased = λ p h. rw (unended-push_piece p byte h.piece) (f.phased p h);
    after = λ p h. rw (unended-push_piece p byte h.phased.piece) (f.after p h);
    outcomes = λ p h. reported_byte p h ∙ sym (stream_outcomes-push_piece p byte _ h.phased.piece);
    alike = λ p h. rw (stream_outcomes-push_piece p byte _ h.piece) (alike_byte p h);
    after_zero = λ p h z.
        let is : byte ≡ 0 = elim (Contains-push_cases [] byte 0 z) [ inl none ↦ absurd (omega (arith, none.1)) | inr is ↦ is ] in
        rw (unended-push_piece p byte h.piece, is) (DecoderAfter-idle buffer' phase' (f.zero_idle is));
  }

-- if the phase before the bytes `done` is the phase after the front p, the phase after these bytes is the phase after
-- the unended bytes of p ++ done
pub phase_so_far : {buffer₀ buffer : List ℕ} {phase₀ phase : Phase} {done : List ℕ} {found : List Outcome} → TakesBytes buffer₀ phase₀ done found buffer phase
    → (p : List ℕ) → PhaseAfter (length buffer₀) phase₀ p → PhaseAfter (length buffer) phase (unended (p ++ done))
phase_so_far {buffer₀} {buffer} {phase₀} {phase} {done} s p h = rw s.len (s.phased p h)

-- MORE BYTES AT ONCE

-- the unended bytes of a stream with more bytes depend only on the unended bytes so far and on the new bytes
unended_more : (p done more : List ℕ) → unended (p ++ (done ++ more)) ≡ unended (unended (p ++ done) ++ more)
unended_more p done more = grind (arith, append_assoc, unended-append)

-- the outcomes of a stream with more bytes: those so far, and then those of the unended bytes so far followed by the
-- new bytes
outcomes_more : (p done more : List ℕ) (n : ℕ) → stream_outcomes (p ++ (done ++ more)) n ≡ stream_outcomes (p ++ done) n ++ stream_outcomes (unended (p ++ done) ++ more) n
outcomes_more p done more n = grind (arith, append_assoc, stream_outcomes-append)

-- `done` are the bytes so far, `more` the bytes that are fed next, and `found` and `stated` the outcomes that were
-- reported for them
module _ {buffer₀ buffer buffer' : List ℕ} {phase₀ phase phase' : Phase} {done more : List ℕ} {found stated : List Outcome} where
  -- the outcomes reported for `more` are those of the unended bytes so far followed by `more`
  reported_more : TakesBytes buffer₀ phase₀ done found buffer phase → TakesBytes buffer phase more stated buffer' phase' → (p : List ℕ) → DecoderAfter buffer phase (unended (p ++ done))
      → stated ≡ stream_outcomes (unended (p ++ done) ++ more) (length buffer₀)
  reported_more s t p w = rw s.len at (t.outcomes _ w)

  -- `TakesBytes` for `done`, and then for `more`, gives `TakesBytes` for both together
  pub takes-more : TakesBytes buffer₀ phase₀ done found buffer phase → TakesBytes buffer phase more stated buffer' phase'
      → TakesBytes buffer₀ phase₀ (done ++ more) (found ++ stated) buffer' phase'
  takes-more s t = record {
    len = t.len ∙ s.len;
    feeds = FeedsEach-append done more buffer₀ buffer buffer' phase₀ phase phase' s.feeds t.feeds;
    phased = λ p h. rw (unended_more p done more) (rw s.len at (t.phased _ (phase_so_far s p h)));
    after = λ p h. rw (unended_more p done more) (t.after _ (s.after p h));
    outcomes = λ p h. rw (outcomes_more p done more (length buffer₀), s.outcomes p h, reported_more s t p (s.after p h)) refl;
    -- If a zero is among `done`, the outcomes of `more` are exact, and only the first outcome of `done` is merely
    -- alike. Otherwise no piece has ended in `done`, and the first outcome is that of `more`.
    alike = λ p h. elim (zero_or_none done) [
      | inl old ↦ rw (outcomes_more p done more (length buffer₀), reported_more s t p (s.after_zero p h old)) (alike-append _ _ _ (s.alike p h))
      | inr none ↦
          let plain : stream_outcomes (p ++ done) (length buffer₀) ≡ [] = stream_outcomes-no_zero (p ++ done) (length buffer₀) (All-append (λ b. b ≢ 0) p done h.piece none) in
          -- so `found` is empty too, and only the outcomes of `more` are left
          rw (outcomes_more p done more (length buffer₀), plain, alike-nil found (rw plain at (s.alike p h)))
          (rw s.len at (t.alike _ (phase_so_far s p h)))
    ];
    -- the zero is among `done`, or among `more`
    after_zero = λ p h z. rw (unended_more p done more) (elim (Contains-append_cases done more 0 z) [
      | inl old ↦ t.after _ (s.after_zero p h old)
      | inr new ↦ t.after_zero _ (phase_so_far s p h) new
    ]);
  }

-- a stream without outcomes has no ended pieces
pub no_outcomes : (t : List ℕ) (n : ℕ) → stream_outcomes t n ≡ [] → ended_pieces t ≡ []
unfolding stream_outcomes
no_outcomes t n e = nil_from_length (ended_pieces t) (grind (arith, length-map))

-- THE BYTES FROM AN INDEX ON

-- if a piece ends in the bytes from index i on, `count` is positive, and isn't greater than the number of these bytes
pub piece_count : {buffer buffer' : List ℕ} {phase phase' : Phase} (bytes : List ℕ) (i : ℕ) (end : PieceEnd) (count : ℕ) → i ≤ length bytes
    → TakesPiece buffer phase (take (length bytes - i) (drop i bytes)) (Some (end, count)) buffer' phase' → (0 < count) × (i + count ≤ length bytes)
piece_count bytes i end count within t = grind (arith, common_steps, length-append, length-take, length-drop)

-- the bytes before index i were fed, and reported the outcomes `found`; `feed_piece` then gets the bytes from index i
-- on
module _ {buffer₀ buffer buffer' : List ℕ} {phase₀ phase phase' : Phase} {found : List Outcome} (bytes : List ℕ) (i : ℕ) where
  -- if no piece ends in the bytes from index i on, all bytes are fed, and no other outcome is reported
  pub takes-all : TakesBytes buffer₀ phase₀ (take i bytes) found buffer phase → TakesPiece buffer phase (take (length bytes - i) (drop i bytes)) None buffer' phase' → TakesBytes buffer₀ phase₀ bytes found buffer' phase'
  -- no outcome is added, and the first i bytes and those from index i on are all bytes
  takes-all s t = rw (append-nil found, take-append-drop i bytes) at (takes-more s (rw (take_rest bytes i) at t.takes))

  -- a piece ends after `count` of the bytes from index i on
  module _ (end : PieceEnd) (count : ℕ) (s : TakesBytes buffer₀ phase₀ (take i bytes) found buffer phase) (t : TakesPiece buffer phase (take (length bytes - i) (drop i bytes)) (Some (end, count)) buffer' phase') where
    -- the first i + count bytes are fed, and the outcome of this piece is reported too
    pub takes-piece : TakesBytes buffer₀ phase₀ (take (i + count) bytes) (found ++ outcome_at end buffer' ∷ []) buffer' phase'
    takes-piece = rw (take-add i count bytes) (takes-more s (grind (arith, take_rest)))

    -- the stream of all bytes has an outcome
    pub outcome_there : (p : List ℕ) → PhaseAfter (length buffer₀) phase₀ p → stream_outcomes (p ++ bytes) (length buffer₀) ≡ [] → ⊥
    outcome_there p h none =
        let n = length buffer₀ in
        -- the outcomes of all bytes: those of the first i + count bytes, and then those of the rest
        let whole : stream_outcomes (p ++ bytes) n ≡ stream_outcomes (p ++ _) n ++ stream_outcomes (unended (p ++ _) ++ drop (i + count) bytes) n
        = ap (λ (x : List ℕ). stream_outcomes (p ++ x) n) (sym (take-append-drop (i + count) bytes)) ∙ outcomes_more p _ (drop (i + count) bytes) n in
        -- if there were no outcome, the first i + count bytes would have none, but the end of this piece was reported
        -- for them
        let nothing : stream_outcomes (p ++ _) n ≡ [] = left_nothing _ _ (sym whole ∙ none) in
        let nil : found ++ outcome_at end buffer' ∷ [] ≡ [] = alike-nil _ (rw nothing at (takes-piece.alike p h)) in
        absurd (omega (arith, ap length nil, length-append found (outcome_at end buffer' ∷ [])))
