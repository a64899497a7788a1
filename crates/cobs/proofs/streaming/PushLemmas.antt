-- A push, byte by byte. `Pushed` says that the first i bytes were fed, and that each of them returned `Ok(None)`. A
-- byte that returns `Ok(None)` continues the push (`Pushed-more`). Any other byte ends it, and `PushesBytes` then holds
-- (`pushed_some`, `pushed_error`, both by `ended`); `PushesBytes` also holds if no byte is left (`pushed_none`). By
-- `ByByteLemmas`, which say the same of `feed_piece`.
use Rattle.std.proofs.Common.{Err, IfOk, IfSome, List, None, Ok, Option, Result, Some, [], ap, arith, cond, drop, eqb, get_or, length, refl, sym, take, ℕ, ◌++◌, ◌+◌, ◌<◌, ◌∙◌, ◌∷◌, ◌≡◌, ◌≤◌}
use Rattle.std.proofs.lemmas.List.{take_more, length_push, same_from_push}
use Rattle.std.proofs.lemmas.Bool.{ne_eqb, eq-eqb, cases_eq}
use borrow.Author.Count.{below_more}
use Rattle.cobs.specs.Stream.{unended}
use Rattle.cobs.specs.Feed.{DecoderAfter, Feeds, Idle, Phase, PhaseAfter, result_for}
use Rattle.cobs.specs.FeedPiece.{TakesPiece, end_reported}
use Rattle.cobs.specs.Internal.FeedsQuietly.{FeedsQuietly}
use Rattle.cobs.specs.Push.{error_outcomes, FeedsInTurn, PushesBytes, consumed, consumed_size, last_result, pushed_outcomes}
use Rattle.cobs.specs.Fields.Report.{frame_size_of}
use Rattle.cobs.specs.declared.error.DecodeError.{DecodeError}
use Rattle.cobs.proofs.streaming.ByByteLemmas.{piece-nothing, piece-more, takes_behind, holds_behind, untouched_behind}
use Rattle.cobs.proofs.streaming.FeedLemmas.{Feeds-step}
use Rattle.cobs.proofs.streaming.RunLemmas.{ran-on}
use Rattle.cobs.proofs.streaming.SoFar.{phase_so_far, reported_by}
use Rattle.cobs.specs.declared.error.DecodeReport.{DecodeReport}
use Rattle.cobs.specs.declared.error.PushError.{PushError}

-- only a zero returns a message
message_at_zero : (q : List ℕ) (b n k : ℕ) → result_for q b n ≡ Ok (Some k) → b ≡ 0
unfolding result_for
message_at_zero q b n k h = grind arith

-- the result for the byte at index `place`, if the bytes are fed one by one after the front p
abbrev pub result_at : List ℕ → List ℕ → ℕ → ℕ → Result (Option ℕ) DecodeError
result_at p bytes n place = result_for (unended (p ++ take place bytes)) (get_or bytes place 0) n

-- each of the first i bytes returns `Ok(None)`, if the bytes are fed after the front p
abbrev pub IsQuiet : List ℕ → List ℕ → ℕ → ℕ → Type 0
IsQuiet p bytes n i = (place : ℕ) → place < i → result_at p bytes n place ≡ Ok None

-- if each of the first i bytes returns `Ok(None)`, and the next byte returns r, these are the results of the
-- first i + 1 bytes in the form of the field `push_returns`
ends_at : (p bytes : List ℕ) (n i place : ℕ) (r : Result (Option ℕ) DecodeError) → IsQuiet p bytes n i → result_at p bytes n i ≡ r → place < i + 1 → result_at p bytes n place ≡ cond (eqb (place + 1) (i + 1)) r (Ok None)
ends_at p bytes n i place r quiet last within = grind (arith, ne_eqb, cases_eq)

-- the first i bytes changed the buffer and the phase from `buffer₀` and `phase₀` to `buffer` and `phase`, and each of
-- them returned `Ok(None)`
pub record Pushed (buffer₀ : List ℕ) (phase₀ : Phase) (buffer : List ℕ) (phase : Phase) (bytes : List ℕ) (i : ℕ) : Type 0 where
  pub piece : TakesPiece buffer₀ phase₀ (take i bytes) None buffer phase
  pub quiet : (p : List ℕ) → PhaseAfter (length buffer₀) phase₀ p → IsQuiet p bytes (length buffer₀) i
  pub zero_idle : (front : List ℕ) → take i bytes ≡ front ++ 0 ∷ [] → phase ≡ Idle
  pub feeds : FeedsInTurn buffer₀ phase₀ (take i bytes) (Ok None) buffer phase

-- if the bytes xs are fed in turn, and the last of them returns `Ok(None)`, and then one more byte is fed,
-- `FeedsInTurn` holds for xs and this byte
FeedsInTurn-push : (xs buffer₀ : List ℕ) (phase₀ : Phase) {buffer buffer' : List ℕ} {phase phase' : Phase} {byte : ℕ} {returned : Result (Option ℕ) DecodeError}
    → FeedsInTurn buffer₀ phase₀ xs (Ok None) buffer phase → Feeds buffer phase byte returned buffer' phase' → FeedsInTurn buffer₀ phase₀ (xs ++ byte ∷ []) returned buffer' phase'
FeedsInTurn-push [] buffer₀ phase₀ {buffer} {buffer'} {phase} {phase'} {byte} {returned} f g = rw (f.1, f.2) at g
FeedsInTurn-push (x ∷ []) buffer₀ phase₀ {buffer} {buffer'} {phase} f g = (buffer, phase, f, g)
FeedsInTurn-push (x ∷ y ∷ xs) buffer₀ phase₀ (between, phase_between, f, more) g = (between, phase_between, f, FeedsInTurn-push (y ∷ xs) between phase_between more g)

-- before the first byte, `Pushed` holds for i = 0
pub Pushed-start : (buffer : List ℕ) (phase : Phase) (bytes : List ℕ) → Pushed buffer phase buffer phase bytes 0
Pushed-start buffer phase bytes = record {
  piece = piece-nothing buffer phase;
  quiet = grind arith;
  zero_idle = λ front e. absurd (omega (arith, ap length e, length_push front 0));
  feeds = (refl, refl, refl);
}

-- after the first i bytes, the byte at index i is fed
module _ {buffer₀ buffer buffer' : List ℕ} {phase₀ phase phase' : Phase} {result : Result (Option ℕ) DecodeError} (bytes : List ℕ) (i : ℕ) (within : i < length bytes)
    (s : Pushed buffer₀ phase₀ buffer phase bytes i) (f : Feeds buffer phase (get_or bytes i 0) result buffer' phase') where
  -- the result of this byte is the one that `result_at` states
  result_here : (p : List ℕ) → PhaseAfter (length buffer₀) phase₀ p → result_at p bytes (length buffer₀) i ≡ result
  result_here p h = sym (rw s.piece.takes.len at (f.returned _ (phase_so_far s.piece.takes p h)))

  -- the field `zero_idle` for the first i + 1 bytes
  zero_behind : (front : List ℕ) → take (i + 1) bytes ≡ front ++ 0 ∷ [] → phase' ≡ Idle
  zero_behind front e = f.zero_idle (same_from_push _ _ _ _ (rw (take_more bytes i 0 within) at e)).1

  -- the field `feeds` for the first i + 1 bytes; this byte returns `result`
  feeds_behind : FeedsInTurn buffer₀ phase₀ (take (i + 1) bytes) result buffer' phase'
  feeds_behind = rw (take_more bytes i 0 within) (FeedsInTurn-push _ buffer₀ phase₀ s.feeds f)

  -- if this byte returns `Ok(None)`, the push continues
  pub Pushed-more : result ≡ Ok None → Pushed buffer₀ phase₀ buffer' phase' bytes (i + 1)
  Pushed-more e = record {
    piece = piece-more bytes i within s.piece f (λ _. ap end_reported e);
    quiet = λ p h. below_more (λ place. result_at p bytes (length buffer₀) place ≡ Ok None) i (s.quiet p h) (result_here p h ∙ e);
    zero_idle = zero_behind;
    feeds = rw e at feeds_behind;
  }

  -- THE PUSH ENDS

  -- This byte ends the push with the result r, if r says that i + 1 bytes were consumed, has the result of this byte,
  -- and stands for the outcomes that this byte reports. The record has the fields of `PushesBytes`.
  ended : (r : Result (Option DecodeReport) PushError) → consumed_size bytes r ≡ i + 1 → last_result r ≡ result
      → ((p : List ℕ) → DecoderAfter buffer₀ phase₀ p → reported_by (get_or bytes i 0) result buffer' ≡ pushed_outcomes bytes r buffer')
      → IfOk r (λ found. IfSome found (λ report. frame_size_of report ≤ length buffer₀)) → PushesBytes buffer₀ phase₀ bytes r buffer' phase'
  ended r count last outcomes bound = let takes = takes_behind bytes i within s.piece f in record {
    -- each byte before this one returned `Ok(None)`, and this one returns `result`
    push_returns = rw (count, last) (λ p h place inside. ends_at p bytes _ i place result (s.quiet p h) (result_here p h) inside);
    -- these fields are stated for the consumed bytes, which are the first i + 1 bytes (`count`)
    phased = rw (consumed, count) takes.phased;
    after = rw (consumed, count) takes.after;
    holds = rw (consumed, count) (holds_behind bytes i within s.piece f);
    untouched = rw (consumed, count) (untouched_behind bytes i within s.piece f);
    outcomes = λ p h. rw (consumed, count) (sym (takes.outcomes p h) ∙ outcomes p h);
    some = λ _. omega arith;
    within = omega (arith, within);
    bound = bound;
    zero_idle = rw (consumed, count) zero_behind;
    feeds = rw (consumed, count, last) feeds_behind;
    len = takes.len;
  }

  -- if this byte returns a message of n bytes, the push returns a report with this number
  pub pushed_some : (n : ℕ) → result ≡ Ok (Some n) → PushesBytes buffer₀ phase₀ bytes (Ok (Some (record { parsed_size = i + 1; frame_size = n }))) buffer' phase'
  -- this byte is a zero (`message_at_zero`), so it reports the outcome that the report stands for
  pushed_some n e = ended (Ok (Some (record { parsed_size = i + 1; frame_size = n }))) refl (sym e)
      (λ p h. rw (e, eq-eqb _ 0 (message_at_zero _ _ _ n (result_here p h.phased ∙ e))) refl) (rw s.piece.takes.len at (rw e at f.bound))

  -- if this byte returns an error, the push returns this error
  pub pushed_error : (e : DecodeError) → result ≡ Err e → PushesBytes buffer₀ phase₀ bytes (Err (record { error = e; parsed_size = i + 1 })) buffer' phase'
  -- the last byte that the error counts, at index i + 1 - 1, is this byte
  pushed_error e is = ended (Err (record { error = e; parsed_size = i + 1 })) refl (sym is)
      (λ p h. rw is (ap (λ (k : ℕ). cond (eqb (get_or bytes k 0) 0) (error_outcomes e) []) (omega arith))) tt

-- if no byte is left, the push returns `Ok(None)`
pub pushed_none : {buffer₀ buffer : List ℕ} {phase₀ phase : Phase} (bytes : List ℕ) (i : ℕ) → i ≡ length bytes → Pushed buffer₀ phase₀ buffer phase bytes i → PushesBytes buffer₀ phase₀ bytes (Ok None) buffer phase
-- the consumed bytes are all bytes, which are the first i bytes
pushed_none bytes i all s = let end = rw all at s in record {
  push_returns = λ p h place inside. grind (arith, end.quiet p h place inside);
  phased = end.piece.takes.phased;
  after = end.piece.takes.after;
  holds = end.piece.holds;
  untouched = end.piece.untouched;
  outcomes = λ p h. sym (end.piece.takes.outcomes p h);
  feeds = end.feeds;
  some = λ other. absurd (other refl);
  within = omega arith;
  bound = tt;
  zero_idle = end.zero_idle;
  len = end.piece.takes.len;
}

-- if the next r bytes are fed quietly (`FeedsQuietly`), the push continues after them
pub pushed_fed : {buffer₀ buffer buffer' : List ℕ} {phase₀ phase phase' : Phase} (bytes : List ℕ) (i r : ℕ) → i + r ≤ length bytes → Pushed buffer₀ phase₀ buffer phase bytes i
    → FeedsQuietly buffer phase (take r (drop i bytes)) buffer' phase' → Pushed buffer₀ phase₀ buffer' phase' bytes (i + r)
-- each byte that returns `Ok(None)` preserves `Pushed` (`Pushed-more`), so all these bytes do (`ran-on`)
pushed_fed {buffer₀} {phase₀ = phase₀} bytes i r within s f =
    ran-on (λ buffer phase i. Pushed buffer₀ phase₀ buffer phase bytes i) bytes (λ buffer phase i within s quiet. Pushed-more bytes i within s (Feeds-step _ _ _) quiet)
    _ _ _ _ i r within s f
