-- The step of specs/Step.antt for one byte meets `Feeds`, the clause `feeds` of `feed` (`Feeds-step`, the main lemma).
-- The decoder that makes these steps is called the machine. If the front p of a piece was fed before the byte, then
-- after the step the phase is the phase after `fed p byte` (`PhaseAfter-step`), the result is the result for the byte
-- after p (`PhaseAfter-result_for`), and the buffer begins with the output (`DecoderAfter-step`). The lemmas
-- distinguish whether p is empty, and whether its output fits the buffer, and use `PieceLemmas`, which says what one
-- more byte changes in a piece.
use Rattle.std.proofs.Common.{◌≡◌, ◌≢◌, ℕ, zero, suc, ◌+◌, ◌<◌, ◌≤◌, Bool, false, cond, leb, List, [], ◌∷◌, ◌++◌, length, take, drop, set, refl, arith, length-append, Option, None, Result, Ok, Err, add-one, inr, ◌⊎◌, true}
use Rattle.std.proofs.lemmas.List.{take_all, take-append-le, append-nil, length_push, take_more_set, set_past, drop-set-lt, length-set}
use Rattle.std.proofs.lemmas.List.Elements.{All-push, All-nil}
use Rattle.std.proofs.lemmas.Bool.{cases_lt, cond-true, cond-false, ne_eqb, le-leb, lt-leb, cases_Bool}
use Rattle.cobs.specs.Grammar.{HasNoZero, is_full}
use Rattle.cobs.specs.Piece.{missing, output, last_part, is_whole}
use Rattle.cobs.specs.Stream.{outcome_of}
use Rattle.cobs.specs.Feed.{Phase, Idle, Within, Overlong, phase_after, PhaseAfter, DecoderAfter, fed, result_at_end, result_for, Feeds}
use Rattle.cobs.specs.Fields.Decoders.{phase_of}
use Rattle.cobs.specs.declared.dec.unbuffered.UnbufferedDecoder.{UnbufferedDecoder}
use Rattle.cobs.specs.Step.{grows, next_phase, next_buffer, error_if_overlong, end_result, next_result}
use Rattle.cobs.specs.declared.error.DecodeError.{DecodeError}
use Rattle.cobs.specs.declared.error.DecodeError.TheVariants.{TargetBufTooSmall}
use Rattle.std.specs.Prelude.{IfOk, IfSome}
use Rattle.std.proofs.lemmas.Grind.{common_steps}
use Rattle.cobs.proofs.decoding.OutcomeLemmas.{outcome_of_long}
use Rattle.cobs.proofs.format.StreamLemmas.{fed-nonzero}
use Rattle.cobs.proofs.streaming.LastPiece.{output-longer}
use Rattle.cobs.proofs.streaming.TableLemmas.{output-nil}
use Rattle.cobs.proofs.decoding.PieceLemmas.{output-one, last_part-one, output-push_more, output-push_next, last_part-push_next, missing-push_more, is_full-push_more, output-push, EndsIn}

-- a decoder whose output was too long is in the phase `Overlong`, whatever its other numbers are
pub over_is : (decoder : UnbufferedDecoder) → decoder.too_long ≢ 0 → phase_of decoder ≡ Overlong
over_is decoder nz = grind arith

-- the phase after a nonempty front of a piece, given whether its last part is full, how many bytes of this part are
-- missing, and the length of the output
phase_after-is : (c : ℕ) (q : List ℕ) (n : ℕ) (full : Bool) (left count : ℕ) → is_full (last_part (c ∷ q)) ≡ full → missing (last_part (c ∷ q)) ≡ left → length (output (c ∷ q)) ≡ count
    → phase_after (c ∷ q) n ≡ cond (leb count n) (Within full left count) Overlong
unfolding phase_after
phase_after-is c q n full left count f l o = grind arith

-- a zero makes every phase `Idle`
next_phase-zero : (n : ℕ) (phase : Phase) → next_phase n phase 0 ≡ Idle
next_phase-zero n phase = grind arith

-- a zero doesn't change the buffer
next_buffer-zero : (buffer : List ℕ) (phase : Phase) → next_buffer buffer phase 0 ≡ buffer
next_buffer-zero buffer phase = grind arith

-- `grows` in the form of `phase_after`: the phase is `Overlong` if and only if the output, with one more byte, is
-- longer than the buffer
grows-is : (n : ℕ) (full : Bool) (left count : ℕ) → grows n full left count ≡ cond (leb (count + 1) n) (Within full left (count + 1)) Overlong
grows-is n full left count = rw add-one refl

-- if the output of a nonempty front fits, and then a nonzero byte b is fed, the next phase is the phase after the front
-- with b
within_step : (n c : ℕ) (q : List ℕ) (b : ℕ) (full : Bool) (left : ℕ) → EndsIn (c ∷ q) full left → b ≢ 0 → length (output (c ∷ q)) ≤ n
    → next_phase n (Within full left (length (output (c ∷ q)))) b ≡ phase_after (c ∷ q ++ b ∷ []) n
within_step n c q b full (suc left) is h fits = grind (arith, ne_eqb, grows-is, phase_after-is, is_full-push_more (c ∷ q) b, missing-push_more (c ∷ q) b, output-push_more (c ∷ q) b, length_push)
within_step n c q b full zero is h fits = grind (arith, cases_Bool, ne_eqb, grows-is, phase_after-is, last_part-push_next (c ∷ q) b, output-push_next, append-nil, length_push, cond-true, le-leb)

-- the phase after a nonempty front whose output fits the buffer
fits_phase : (c : ℕ) (q : List ℕ) (n : ℕ) → length (output (c ∷ q)) ≤ n → phase_after (c ∷ q) n ≡ Within (is_full (last_part (c ∷ q))) (missing (last_part (c ∷ q))) (length (output (c ∷ q)))
fits_phase c q n h = grind (arith, phase_after-is, cond-true, le-leb)

-- the phase after a nonempty front whose output is too long for the buffer
over_phase : (c : ℕ) (q : List ℕ) (n : ℕ) → n < length (output (c ∷ q)) → phase_after (c ∷ q) n ≡ Overlong
over_phase c q n h = grind (arith, phase_after-is, cond-false, lt-leb)

-- after any front p and a nonzero byte b, the next phase is the phase after the front with b
nonzero_step : (n : ℕ) (p : List ℕ) (b : ℕ) → b ≢ 0 → next_phase n (phase_after p n) b ≡ phase_after (p ++ b ∷ []) n
unfolding phase_after
nonzero_step n [] b h = grind (arith, phase_after-is, last_part-one, output-one, cond-true, le-leb)
nonzero_step n (c ∷ q) b h = grind (arith, cases_lt, over_phase, ne_eqb, output-longer (c ∷ q) b, fits_phase, within_step)

-- RESULTS

-- the result for the zero after a nonempty front whose output fits; `left` bytes of its last part are missing
result_within : (n c : ℕ) (q : List ℕ) (left : ℕ) → missing (last_part (c ∷ q)) ≡ left → length (output (c ∷ q)) ≤ n
    → end_result n (Within (is_full (last_part (c ∷ q))) left (length (output (c ∷ q)))) ≡ result_at_end (c ∷ q) n
unfolding result_at_end outcome_of is_whole
result_within n c q left h e = grind (arith, le-leb, ne_eqb)

-- the machine's result for the zero after any front p
pub end_result-is : (n : ℕ) (p : List ℕ) → end_result n (phase_after p n) ≡ result_at_end p n
unfolding phase_after result_at_end
end_result-is n p = grind (arith, over_phase, outcome_of_long, fits_phase, result_within)

-- the machine's result for a nonzero byte b after the front p: `Ok(None)` if the output with b fits, otherwise an error
error_if_overlong-push : (p : List ℕ) (b n : ℕ) → error_if_overlong (phase_after (p ++ b ∷ []) n) ≡ cond (leb (length (output (p ++ b ∷ []))) n) (Ok None) (Err TargetBufTooSmall)
unfolding phase_after
error_if_overlong-push [] b n = grind arith
error_if_overlong-push (c ∷ q) b n = grind arith

-- BUFFERS

-- the buffer begins with the list o, or with as many bytes of o as fit; `DecoderAfter` says this of the output
abbrev pub Begins : List ℕ → List ℕ → Type 0
Begins buffer o = take (length o) buffer ≡ take (length buffer) o

-- every buffer begins with the empty list
begins-nil : (buffer : List ℕ) → Begins buffer []
begins-nil buffer = grind arith

-- if o fills the buffer, the buffer begins with every longer list that begins with o
begins-over : (buffer o more : List ℕ) → length buffer ≤ length o → Begins buffer o → Begins buffer (o ++ more)
begins-over buffer o more h e = grind (arith, take_all, length-append, take-append-le)

-- if the buffer begins with o, and w is written after o, it begins with o followed by w
begins-push : (buffer o : List ℕ) (w : ℕ) → Begins buffer o → Begins (set buffer (length o) w) (o ++ w ∷ [])
begins-push buffer o w e = grind (arith, length_push, take_more_set, take_all, length-set, set_past, begins-over)

-- a nonzero byte of a piece changes neither the output nor the buffer, or it adds the same byte to both
adds_same : (buffer : List ℕ) (c : ℕ) (q : List ℕ) (b : ℕ) (full : Bool) (left : ℕ) → EndsIn (c ∷ q) full left → b ≢ 0
    → let o = output (c ∷ q) in let o' = output (c ∷ q ++ b ∷ []) in let buffer' = next_buffer buffer (Within full left (length o)) b in
    ((o' ≡ o) × (buffer' ≡ buffer)) ⊎ ((w : ℕ) × (o' ≡ o ++ w ∷ []) × (buffer' ≡ set buffer (length o) w))
adds_same buffer c q b full (suc left) is h = inr (b, grind (arith, output-push_more (c ∷ q) b), grind arith)
adds_same buffer c q b true zero is h = grind (arith, output-push_next, append-nil)
adds_same buffer c q b false zero is h = grind (arith, output-push_next, ne_eqb)

-- after the step for a nonzero byte b, the buffer begins with the output of the front with b
begins-nonzero : (buffer p : List ℕ) (b : ℕ) → b ≢ 0 → Begins buffer (output p) → Begins (next_buffer buffer (phase_after p (length buffer)) b) (output (p ++ b ∷ []))
unfolding phase_after
begins-nonzero buffer [] b h e = rw (output-one b) (begins-nil buffer)
begins-nonzero buffer (c ∷ q) b h e = grind (arith, cases_lt, over_phase, fits_phase, begins-over, begins-push, adds_same, output-push c q b)

-- after the step for any byte b, the buffer begins with the output of `fed p b`, which is empty after a zero
begins-step : (buffer p : List ℕ) (b : ℕ) → Begins buffer (output p) → Begins (next_buffer buffer (phase_after p (length buffer)) b) (output (fed p b))
begins-step buffer p zero e = grind (arith, output-nil, begins-nil)
begins-step buffer p (suc b) e = grind (arith, fed-nonzero, begins-nonzero)

-- the step doesn't change the length of the buffer
length-next_buffer : (buffer : List ℕ) (phase : Phase) (b : ℕ) → length (next_buffer buffer phase b) ≡ length buffer
length-next_buffer buffer phase b = grind (arith, length-set)

-- if p has no zero, `fed p b` has none
piece-fed : (p : List ℕ) (b : ℕ) → HasNoZero p → HasNoZero (fed p b)
piece-fed p zero h = All-nil (λ byte. byte ≢ 0)
piece-fed p (suc b) h = grind (arith, common_steps, fed-nonzero, All-push)

-- THE STEP, for `PhaseAfter` and `DecoderAfter`

-- the field `phased` of `Feeds`
PhaseAfter-step : (n : ℕ) (phase : Phase) (b : ℕ) (p : List ℕ) → PhaseAfter n phase p → PhaseAfter n (next_phase n phase b) (fed p b)
unfolding phase_after
PhaseAfter-step n phase b p h = grind (arith, piece-fed, next_phase-zero, nonzero_step, fed-nonzero)

-- the field `returned` of `Feeds`
PhaseAfter-result_for : (n : ℕ) (phase : Phase) (b : ℕ) (p : List ℕ) → PhaseAfter n phase p → next_result n phase b ≡ result_for p b n
unfolding result_for
PhaseAfter-result_for n phase b p h = grind (arith, end_result-is, ne_eqb, nonzero_step, error_if_overlong-push)

-- the field `after` of `Feeds`
DecoderAfter-step : (buffer : List ℕ) (phase : Phase) (b : ℕ) (p : List ℕ) → DecoderAfter buffer phase p → DecoderAfter (next_buffer buffer phase b) (next_phase (length buffer) phase b) (fed p b)
DecoderAfter-step buffer phase b p h = grind (arith, common_steps, length-next_buffer, PhaseAfter-step, begins-step)

-- the field `untouched` of `Feeds`: a nonzero byte changes no byte of the buffer after the output
PhaseAfter-untouched : (buffer : List ℕ) (phase : Phase) (b : ℕ) (p : List ℕ) → PhaseAfter (length buffer) phase p → b ≢ 0
    → drop (length (output (p ++ b ∷ []))) (next_buffer buffer phase b) ≡ drop (length (output (p ++ b ∷ []))) buffer
unfolding phase_after
PhaseAfter-untouched buffer phase b p h nz = grind (arith, over_phase, fits_phase, adds_same, drop-set-lt, length_push)

-- an idle decoder has been fed no byte of a piece since its last piece ended: the front is empty, whatever the buffer
-- contains
pub DecoderAfter-idle : (buffer : List ℕ) (phase : Phase) → phase ≡ Idle → DecoderAfter buffer phase []
unfolding phase_after
DecoderAfter-idle buffer phase e = grind (arith, output-nil, begins-nil)

-- the field `bound` of `Feeds`: a message isn't longer than the buffer
result-bound : (n : ℕ) (phase : Phase) (byte : ℕ) → IfOk (next_result n phase byte) (λ found. IfSome found (λ k. k ≤ n))
result-bound n phase byte = grind arith

-- the main lemma: the machine's step for a byte meets `Feeds`
pub Feeds-step : (buffer : List ℕ) (phase : Phase) (b : ℕ) → let n = length buffer in Feeds buffer phase b (next_result n phase b) (next_buffer buffer phase b) (next_phase n phase b)
Feeds-step buffer phase b = record {
  returned = grind (arith, PhaseAfter-result_for);
  phased = PhaseAfter-step (length buffer) phase b;
  after = DecoderAfter-step buffer phase b;
  untouched = PhaseAfter-untouched buffer phase b;
  zero_idle = grind (arith, next_phase-zero);
  zero_unchanged = grind (arith, next_buffer-zero);
  bound = grind (arith, result-bound);
  len = length-next_buffer buffer phase b;
}

-- a function meets `Feeds` if its result, phase and buffer are those of the machine's step
pub Feeds-as : {buffer buffer' : List ℕ} {phase phase' : Phase} {b : ℕ} {result : Result (Option ℕ) DecodeError} → result ≡ next_result (length buffer) phase b → phase' ≡ next_phase (length buffer) phase b
    → buffer' ≡ next_buffer buffer phase b → Feeds buffer phase b result buffer' phase'
Feeds-as {buffer} {buffer'} {phase} {phase'} {b} returned phase_is buffer_is = grind (arith, Feeds-step)

-- `Feeds` for a zero: the buffer doesn't change, and the decoder is idle after it
pub Feeds-zero : (buffer : List ℕ) (phase : Phase) → Feeds buffer phase 0 (end_result (length buffer) phase) buffer Idle
Feeds-zero buffer phase = Feeds-as refl (grind arith) (grind arith)
