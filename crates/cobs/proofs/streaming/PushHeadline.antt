-- A push of f and a zero to an idle decoder reports the message m if and only if f is a frame of m, and m fits the
-- buffer (`push_reads`). The clauses `reads` and `only` of the decoders' `push` follow from it (`push_message`,
-- `push_only`). By the fields of `PushesBytes`: `outcomes` says that a report stands for the outcome of f (`stated`),
-- and `push_returns` says that no byte of f returns an error if the output of f fits (`pushed`). By `outcome_message`,
-- the outcome of f is m if and only if f is a frame of m.
use Rattle.std.proofs.Common.{◌≡◌, ◌≢◌, ℕ, ◌+◌, ◌<◌, ◌≤◌, Fits, get_or, w8, ◌↔◌, List, [], ◌∷◌, ◌++◌, length, take, All, Option, Some, None, Result, Ok, Err, sym, ap, ◌∙◌, arith, length-append, length-take-le, take-append-drop, drop, inl, inr, ◌-◌}
use Rattle.std.proofs.lemmas.Bool.{cases_lt, eq-eqb, le-leb}
use Rattle.std.proofs.lemmas.List.{take-append-le, take_more, get_or_append_left}
use Rattle.std.proofs.lemmas.List.Elements.{All-take, All-get_or}
use Rattle.cobs.specs.Grammar.{HasNoZero, Reads}
use Rattle.cobs.specs.Piece.{output}
use Rattle.cobs.specs.Stream.{Message, outcome_of, stream_outcomes, unended, Outcome}
use Rattle.cobs.specs.Feed.{DecoderAfter, Phase, Idle, result_for}
use Rattle.cobs.specs.Fields.Report.{parsed_size_of}
use Rattle.cobs.specs.Push.{PushesBytes, consumed_size, pushed_outcomes}
use Rattle.cobs.specs.Headline.{IsPiece, PushesMessage}
use Rattle.cobs.specs.declared.error.DecodeReport.{DecodeReport}
use Rattle.cobs.specs.declared.error.PushError.{PushError}
use Rattle.cobs.proofs.format.FrameLemmas.{All-apart}
use Rattle.cobs.proofs.streaming.FeedLemmas.{DecoderAfter-idle}
use Rattle.cobs.proofs.streaming.LastPiece.{output-grows}
use Rattle.cobs.proofs.streaming.PushLemmas.{result_at}
use Rattle.cobs.proofs.format.StreamLemmas.{outcomes-behind, outcomes-first, outcomes-none, unended-no_zero}
use Rattle.cobs.proofs.decoding.OutcomeLemmas.{outcome_message, outcome_says}
use Rattle.cobs.proofs.decoding.ReadsLemmas.{frame_piece}
use Rattle.cobs.proofs.decoding.HeadlineLemmas.{bytes_below}

-- the output of the first k bytes of f is no longer than the output of f
output-take : (f : List ℕ) (k : ℕ) → length (output (take k f)) ≤ length (output f)
output-take f k = rw (take-append-drop k f) at (output-grows (take k f) (drop k f))

-- the result for a nonzero byte is `Ok(None)` if the output with this byte fits
result_for-quiet : (q : List ℕ) (b n : ℕ) → b ≢ 0 → length (output (q ++ b ∷ [])) ≤ n → result_for q b n ≡ Ok None
unfolding result_for
result_for-quiet q b n some fits = grind (arith, le-leb)

-- if f has no zero, and its output fits, each byte of f returns `Ok(None)`
quiet_inside : (f : List ℕ) (n place : ℕ) → HasNoZero f → length (output f) ≤ n → place < length f → result_at [] (f ++ 0 ∷ []) n place ≡ Ok None
quiet_inside f n place piece fits within =
    -- the bytes before this byte are a front of f, and have no zero
    let front : take place (f ++ 0 ∷ []) ≡ take place f = take-append-le place f (0 ∷ []) (omega arith) in
    let same : unended (take place (f ++ 0 ∷ [])) ≡ take place f
    = ap unended front ∙ unended-no_zero (take place f) (All-take (λ b. b ≢ 0) place f piece) in
    grind (arith, unended-no_zero, All-take, get_or_append_left, take_more, output-take, result_for-quiet, All-get_or)

-- a push that returns an error doesn't report a message
pushed-no_message : (bytes : List ℕ) (failure : PushError) (buffer m : List ℕ) (rest : List Outcome)
    → Message m ∷ rest ≡ pushed_outcomes bytes (Err failure) buffer → ⊥
pushed-no_message bytes failure buffer m rest e = grind arith

-- an idle decoder gets f and a zero by `push`; f isn't empty and has no zero
module _ (buffer bytes buffer' f m : List ℕ) (phase phase' : Phase) (idle : phase ≡ Idle) (is : bytes ≡ f ++ 0 ∷ []) (piece : IsPiece f) where
  -- the decoder has been fed no byte of a piece
  after : DecoderAfter buffer phase []
  after = DecoderAfter-idle buffer phase idle

  -- the outcomes of the bytes that the push consumed are those that its result reports
  outcomes : (result : Result (Option DecodeReport) PushError) → PushesBytes buffer phase bytes result buffer' phase'
      → stream_outcomes (take (consumed_size bytes result) (f ++ 0 ∷ [])) (length buffer) ≡ pushed_outcomes bytes result buffer'
  outcomes result w = rw (← is) (w.outcomes [] after)

  -- if the push reports the message m, the outcome of f is m
  stated : (result : Result (Option DecodeReport) PushError) → PushesBytes buffer phase bytes result buffer' phase'
      → PushesMessage result buffer' m → outcome_of f (length buffer) ≡ Message m
  stated (Ok None) w p = absurd p
  stated (Err failure) w p = absurd p
  stated (Ok (Some report)) w p =
      -- the push reports the only outcome of the consumed bytes, and this is the outcome of f (`first`)
      let first = outcomes-first f [] (length buffer) (parsed_size_of report) piece.0 piece.1 _ [] (outcomes (Ok (Some report)) w) in
      cc

  -- if the outcome of f is m, the push reports m
  pushed : (result : Result (Option DecodeReport) PushError) → PushesBytes buffer phase bytes result buffer' phase'
      → outcome_of f (length buffer) ≡ Message m → PushesMessage result buffer' m
  pushed (Ok None) w e =
      -- the push can't return `Ok(None)`: all bytes would be consumed, but then the zero ends f, and the outcome is
      -- reported
      let short = outcomes-none f [] (length buffer) (length bytes) piece.0 piece.1 (outcomes (Ok None) w) in
      absurd (omega (arith, ap length is ∙ length-append f (0 ∷ [])))
  pushed (Ok (Some report)) w e =
      -- if the push returns a report, the report stands for the outcome of f, so for m
      let first = outcomes-first f [] (length buffer) (parsed_size_of report) piece.0 piece.1 _ [] (outcomes (Ok (Some report)) w) in
      let bound = w.bound in
      grind (arith, length-take-le)
  -- The push can't return an error. If the zero returned it, the outcome of f wouldn't be a message. Each byte before
  -- the zero returns `Ok(None)`.
  pushed (Err failure) w e = elim (cases_lt (length f) failure.parsed_size) [
    | inl all ↦
        -- the zero is among the consumed bytes, so their first outcome is that of f, a message (`outcomes-behind`)
        let one = outcomes-behind f [] (length buffer) failure.parsed_size piece.0 piece.1 all in
        absurd (pushed-no_message bytes failure buffer' m one.0 (cc (outcomes (Err failure) w)))
    | inr short ↦
        -- k is the index of the last consumed byte; it is a byte of f, so it returns `Ok(None)` (`quiet`)
        let k = failure.parsed_size - 1 in
        let some : 0 < failure.parsed_size = w.some (λ e. cc) in
        let quiet = quiet_inside f (length buffer) k piece.1 (outcome_says f (length buffer) e).0 (omega arith) in
        -- but the push says that this byte returned the error
        let last = rw (eq-eqb (k + 1) failure.parsed_size (omega arith)) at (w.push_returns [] after.phased k (omega arith)) in
        absurd (let e = sym quiet ∙ ap (λ (x : List ℕ). result_at [] x (length buffer) k) (sym is) ∙ last in cc)
  ]

-- a push of some bytes, with this result
module _ {buffer bytes buffer' : List ℕ} {phase phase' : Phase} {result : Result (Option DecodeReport) PushError} (w : PushesBytes buffer phase bytes result buffer' phase') where
  -- if the bytes are f and a zero, the push reports m if and only if f is a frame of m, and m fits
  pub push_reads : All (λ b. b < 256) bytes → (f m : List ℕ) → phase ≡ Idle → bytes ≡ f ++ 0 ∷ [] → IsPiece f → PushesMessage result buffer' m ↔ (Reads f m × (length m ≤ length buffer))
  push_reads below f m idle is piece =
      -- the push reports m if and only if the outcome of f is m (`says`, `reports`), that is, if f is a frame of m that
      -- fits (`both`)
      let both = outcome_message f m (length buffer) piece (All-apart (λ b. b < 256) f (0 ∷ []) (rw is at below)).0 in
      let says = stated buffer bytes buffer' f m phase phase' idle is piece result w in
      let reports = pushed buffer bytes buffer' f m phase phase' idle is piece result w in
      grind arith

  -- the clause `reads` of `push`: the bytes have the type u8, so they are below 256
  pub push_message : ((i : ℕ) → Fits w8 (get_or bytes i 0)) → (f m : List ℕ) → phase ≡ Idle → bytes ≡ f ++ 0 ∷ [] → Reads f m → length m ≤ length buffer → PushesMessage result buffer' m
  push_message fits f m idle is r room = (push_reads (bytes_below bytes fits) f m idle is (frame_piece r)).1 (r, room)

  -- the clause `only` of `push`
  pub push_only : ((i : ℕ) → Fits w8 (get_or bytes i 0)) → (f m : List ℕ) → phase ≡ Idle → bytes ≡ f ++ 0 ∷ [] → IsPiece f → PushesMessage result buffer' m → Reads f m × (length m ≤ length buffer)
  push_only fits f m idle is piece = grind (arith, push_reads, bytes_below)
