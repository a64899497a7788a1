-- The calls that decode whole frames feed the front p of a piece quietly (`FeedsQuietly`) to an idle decoder. Then the
-- buffer begins with the output of p, its other bytes are as they were, and the phase is that after p (`Quiet`; `quiet`
-- is the main lemma, by `piece-all` of `RunLemmas`: no piece has ended in p). From this the file derives the numbers of
-- the decoder (`quiet-within`, `quiet-at`) and the whole buffer (`quiet-written`). If the buffer has no room for the
-- output of the next byte of the piece, the output of the piece is too long, and its first bytes fill the buffer
-- (`quiet-long`, `quiet-full`).
use Rattle.std.proofs.Common.{◌≡◌, ◌≢◌, ℕ, ◌<◌, ◌≤◌, Bool, cond, eqb, List, [], ◌∷◌, ◌++◌, length, drop, get_or, refl, sym, ap, ◌∙◌, subst, arith, append_assoc, append-nil, take_all, inl, inr, ◌+◌}
use Rattle.std.proofs.lemmas.List.{drop_all}
use Rattle.std.proofs.lemmas.Bool.{cases_Bool, cases_lt, ne_eqb, le-leb, lt-leb, leb-false}
use Rattle.cobs.specs.Grammar.{HasNoZero}
use Rattle.cobs.specs.Piece.{last_part, missing, output, parts, parts_after}
use Rattle.cobs.specs.Overwritten.{overwritten}
use Rattle.cobs.specs.Feed.{Phase, Idle, Overlong, phase_after, PhaseAfter, DecoderAfter, fed}
use Rattle.cobs.specs.declared.dec.unbuffered.UnbufferedDecoder.{UnbufferedDecoder}
use Rattle.cobs.specs.Fields.Decoders.{phase_of, phase_with}
use Rattle.cobs.specs.Internal.FeedsQuietly.{FeedsQuietly}
use Rattle.cobs.specs.Step.{next_phase, next_buffer}
use Rattle.cobs.specs.Push.{last_piece}
use Rattle.cobs.specs.Stream.{head}
use Rattle.cobs.proofs.decoding.HeadLemmas.{head-cut, head-front, head_some}
use Rattle.cobs.proofs.decoding.OutcomeLemmas.{head_nonzero}
use Rattle.cobs.proofs.format.StreamLemmas.{ended_pieces-no_zero, fed-nonzero, stream_outcomes-front, unended-no_zero}
use Rattle.cobs.proofs.streaming.FeedLemmas.{Feeds-step, DecoderAfter-idle}
use Rattle.cobs.proofs.streaming.LastPiece.{last_piece-unended, overwritten-is, output-begins, output-grows}
use Rattle.cobs.proofs.streaming.RunLemmas.{piece-all}
use Rattle.cobs.proofs.streaming.TableLemmas.{output-nil}

-- If bytes that are fed quietly to an idle decoder begin with a code, none of them is a zero. A zero would end the
-- piece before it, but no piece ends in bytes that are fed quietly (`none`).
pub quiet-piece : (xs old new : List ℕ) (phase : Phase) → (0 < length xs → get_or xs 0 0 ≢ 0) → FeedsQuietly old Idle xs new phase → HasNoZero xs
quiet-piece xs old new phase first f = elim (cases_lt (length (head xs)) (length xs)) [
  | inl more ↦
      let none = (piece-all xs old new Idle phase f).takes.outcomes [] (DecoderAfter-idle old Idle refl) in
      -- there are bytes before the first zero of xs (`some`, `cut`); this zero ends a piece, so xs has an outcome
      -- (`one`), which contradicts `none`
      let some : head xs ≢ [] = λ e. omega (arith, ap length e, head_some xs (omega arith) (first (omega arith))) in
      let cut = head-cut xs more in
      let one = stream_outcomes-front (head xs) (drop (length (head xs) + 1) xs) (length old) some (head_nonzero xs) in
      absurd cc
  -- the bytes of xs before its first zero are all bytes of xs
  | inr all ↦ subst HasNoZero (sym (head-front xs) ∙ take_all (length (head xs)) xs all) (head_nonzero xs)
]

-- the front p of a piece was fed quietly to an idle decoder; `old` is the buffer before p, and `new` is the one after p
pub record Quiet (old new : List ℕ) (phase : Phase) (p : List ℕ) : Type 0 where
  pub after : DecoderAfter new phase p
  pub rest : drop (length (output p)) new ≡ drop (length (output p)) old
  pub len : length new ≡ length old
  pub fits : length (output p) ≤ length old

-- if the phase isn't `Overlong` before some bytes are fed quietly, it isn't `Overlong` after them
going : (xs buffer new : List ℕ) (phase phase' : Phase) → phase ≢ Overlong → FeedsQuietly buffer phase xs new phase' → phase' ≢ Overlong
going [] buffer new phase phase' some f = grind arith
going (x ∷ xs) buffer new phase phase' some f =
    -- the first byte returned `Ok(None)`, so it didn't make the phase `Overlong`
    going xs (next_buffer buffer phase x) new (next_phase (length buffer) phase x) phase' (λ over. grind (arith, ne_eqb)) f.1

-- if the phase after p isn't `Overlong`, the output of p fits the buffer
fits-by : (p : List ℕ) (n : ℕ) → phase_after p n ≢ Overlong → length (output p) ≤ n
unfolding phase_after
fits-by [] n some = omega (arith, ap length output-nil)
fits-by (c ∷ p) n some = grind (arith, lt-leb)

-- the main lemma: if p has no zero, and is fed quietly to an idle decoder, `Quiet` holds
pub quiet : (p old new : List ℕ) (phase : Phase) → HasNoZero p → FeedsQuietly old Idle p new phase → Quiet old new phase p
quiet p old new phase none f =
    let t = piece-all p old new Idle phase f in
    let idle = DecoderAfter-idle old Idle refl in
    let after : DecoderAfter new phase p = rw (unended-no_zero p none) at (t.takes.after [] idle) in
    -- no piece has ended in p, so p itself is the last piece
    let last : last_piece p ≡ p = last_piece-unended p (ended_pieces-no_zero p none) ∙ unended-no_zero p none in
    record {
      after = after;
      rest = rw last at (t.untouched [] idle.phased);
      len = t.takes.len;
      -- the phase after p isn't `Overlong` (`going`), so the output of p fits (`fits-by`)
      fits = rw (← t.takes.len) (fits-by p (length new) (λ over. going p old new Idle phase (λ e. cc) f (after.phased.phase_is ∙ over)));
    }

-- if the phase after p is `Overlong`, the output of p is longer than the buffer
long-by : (p : List ℕ) (n : ℕ) → Overlong ≡ phase_after p n → n < length (output p)
unfolding phase_after
long-by [] n e = absurd (cc)
long-by (c ∷ p) n e = grind (arith, leb-false)

-- if the output of p fits the buffer, and a next nonzero byte makes the phase `Overlong`, the output of p fills the
-- buffer
full-by : (p : List ℕ) (n x : ℕ) → x ≢ 0 → length (output p) ≤ n → next_phase n (phase_after p n) x ≡ Overlong → n ≤ length (output p)
unfolding phase_after
full-by [] n x nz fits e = grind arith
full-by (c ∷ p) n x nz fits e = grind (arith, ne_eqb, le-leb, cases_Bool, leb-false)

-- `count` is the length of the output of p, and `left` is the number of missing bytes of p's last part; these two
-- numbers are called the counts of p
abbrev pub Counts : List ℕ → ℕ → ℕ → Type 0
Counts p count left = (count ≡ length (output p)) × (left ≡ missing (last_part p))

-- If these numbers of an `UnbufferedDecoder` mean the phase after p, and the output of p fits, they are the counts
-- of p. `going` says that the decoder's number `too_long` is 0.
at-by : (p : List ℕ) (n : ℕ) (going full : Bool) (left count : ℕ) → cond going (phase_with full left count) Overlong ≡ phase_after p n → length (output p) ≤ n → Counts p count left
unfolding phase_after last_part output parts parts_after
at-by [] n going full left count e fits = grind arith
at-by (c ∷ p) n going full left count e fits = grind arith

-- p was fed quietly
module _ (old new p : List ℕ) (phase : Phase) (s : Quiet old new phase p) where
  -- the buffer is the old buffer, overwritten with the output of p
  pub quiet-written : new ≡ overwritten old (output p)
  quiet-written = grind (arith, overwritten-is)

  -- the buffer has no room for the output of the next byte x of the piece; `tail` are the bytes of the piece after x
  module _ (x : ℕ) (tail : List ℕ) (nz : x ≢ 0) (over : next_phase (length new) phase x ≡ Overlong) where
    -- the output of the piece is longer than the buffer
    pub quiet-long : length old < length (output (p ++ x ∷ tail))
    quiet-long =
        let q : List ℕ = p ++ x ∷ [] in
        -- the phase after p with x, which is `Overlong`
        let to : PhaseAfter (length new) (next_phase (length new) phase x) (fed p x) = (Feeds-step new phase x).phased p s.after.phased in
        -- so the output of p with x is longer than the buffer, and the bytes after x don't make it shorter
        let long = long-by q (length new) (sym over ∙ to.phase_is ∙ ap (λ (l : List ℕ). phase_after l (length new)) (fed-nonzero p x nz)) in
        omega (arith, s.len, output-grows q tail, ap (λ (l : List ℕ). length (output l)) (append_assoc p (x ∷ []) tail))

    -- the buffer is full of the first bytes of this output
    pub quiet-full : new ≡ overwritten old (output (p ++ x ∷ tail))
    quiet-full = grind (arith, full-by, quiet-long, quiet-written, output-begins, take_all, drop_all, append-nil)

  -- the numbers `written` and `missing` of a decoder with this phase are the counts of p
  pub quiet-at : (inner : UnbufferedDecoder) → phase_of inner ≡ phase → Counts p inner.written inner.missing
  -- these numbers mean the phase (`is`), and the phase is the phase after p (`phase_is`)
  quiet-at inner is = at-by p (length new) (eqb inner.too_long 0) (eqb inner.joint 0) inner.missing inner.written (is ∙ s.after.phased.phase_is) (omega (arith, s.fits))
