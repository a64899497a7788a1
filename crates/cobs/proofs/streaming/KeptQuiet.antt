-- Lemmas for `decode_blocks` and `decode_blocks_in_place`, which decode the bytes h before a zero up to the last byte
-- whose output is kept. If the first k bytes of h are fed, and their output is the kept output of h, the result and the
-- buffer are those that the contract states: `kept_fed` says this of decoding in place, and `kept_fits` of decoding
-- into another buffer. If the buffer has no room for the output of one of these bytes, the result is an error
-- (`kept_stop`). The lemmas are by `quiet` for the bytes that are fed, and by `TailLemmas` for the bytes that aren't
-- fed.
use Rattle.std.proofs.Common.{◌≡◌, ◌≢◌, ℕ, length-take, ◌<◌, ◌↔◌, IsTrue, Bool, false, get_or, List, length, take, refl, ap, ◌∙◌, arith, Result, Ok, Err}
use Rattle.std.proofs.lemmas.List.{get_or-take, take-take}
use Rattle.std.proofs.lemmas.List.Elements.{All-take, All-get_or}
use Rattle.std.proofs.lemmas.Bool.{eq-eqb, le-leb, ne_eqb, cases_eq}
use Rattle.cobs.specs.Grammar.{HasNoZero}
use Rattle.cobs.specs.Piece.{kept_output, last_part, missing, output}
use Rattle.cobs.specs.Feed.{Phase, Idle, Overlong}
use Rattle.cobs.specs.Step.{next_phase}
use Rattle.cobs.specs.Stream.{head}
use Rattle.cobs.specs.declared.dec.unbuffered.UnbufferedDecoder.{UnbufferedDecoder}
use Rattle.cobs.specs.declared.error.DecodeError.{DecodeError}
use Rattle.cobs.specs.declared.error.DecodeError.TheVariants.{InvalidFrame, TargetBufTooSmall}
use Rattle.cobs.specs.Fields.Decoders.{phase_of}
use Rattle.cobs.specs.Internal.FeedsQuietly.{FeedsQuietly}
use Rattle.cobs.proofs.decoding.OutcomeLemmas.{head_alone}
use Rattle.cobs.proofs.streaming.FrontFed.{FrontFed, over-long, over-written}
use Rattle.cobs.proofs.decoding.KeptLemmas.{head_result-is, Decoded, DecodedInPlace}
use Rattle.cobs.proofs.streaming.QuietLemmas.{Quiet, quiet, quiet-at, quiet-written}

-- the first k bytes of h are fed, and their output is the kept output of h; `whole` says whether h is whole, and
-- `result` is the result of `message_len`
module _ (h old new : List ℕ) (inner : UnbufferedDecoder) (k : ℕ) (whole : Bool) (result : Result ℕ DecodeError) (nonzero : HasNoZero h)
    (fed : FeedsQuietly old Idle (take k h) new (phase_of inner)) (kept : output (take k h) ≡ kept_output h)
    (is : IsTrue whole ↔ (missing (last_part h) ≡ 0))
    (ok : IsTrue whole → result ≡ Ok inner.written) (broken : whole ≡ false → result ≡ Err (InvalidFrame inner.written)) where
  -- these k bytes are fed quietly
  run : Quiet old new (phase_of inner) (take k h)
  run = quiet (take k h) old new (phase_of inner) (All-take (λ b. b ≢ 0) k h nonzero) fed

  -- the decoder's number `written` is the length of the kept output
  counted : inner.written ≡ length (kept_output h)
  counted = (quiet-at old new (take k h) (phase_of inner) run inner refl).0 ∙ ap length kept

  -- the result and the buffer are those of a call that decodes in place
  pub kept_fed : DecodedInPlace h old new result
  kept_fed = grind (arith, counted, head_result-is, cases_eq, eq-eqb, ne_eqb, quiet-written, run)

  -- they are also those of a call that decodes into another buffer, because the kept output fits
  pub kept_fits : Decoded h old new result
  kept_fits = grind (arith, kept_fed, le-leb, run)

-- the kept output is that of the first k bytes of h, but the buffer has no room for the byte at index `run`, which is
-- one of them: the result is `TargetBufTooSmall`
pub kept_stop : (h old new : List ℕ) (phase : Phase) (k run : ℕ) → output (take k h) ≡ kept_output h → HasNoZero h → run < k → run < length h
    → FeedsQuietly old Idle (take run h) new phase → next_phase (length new) phase (get_or h run 0) ≡ Overlong → Decoded h old new (Err TargetBufTooSmall)
kept_stop h old new phase k run kept none before inside f over =
    -- these k bytes are a source of their own, to which `FrontFed` applies
    let front : List ℕ = take k h in
    let nonzero : HasNoZero front = All-take (λ b. b ≢ 0) k h none in
    let same : take run front ≡ take run h = take-take run k h (omega arith) in
    let here : get_or front run 0 ≡ get_or h run 0 = get_or-take k h run 0 before in
    let more : run < length front = omega (arith, length-take k h) in
    let other : get_or front run 0 ≢ 0 = All-get_or (λ b. b ≢ 0) front run 0 more nonzero in
    let begins : 0 < length (head front) = rw (head_alone front nonzero) (omega arith) in
    let fed : FrontFed front old new phase run = record { begins = begins; within = omega arith; fed = rw same f } in
    let past = rw (← here) at over in
    -- `front` has no zero, so it is its own first piece (`head_alone`); its output is too long for the buffer (`long`),
    -- and its first bytes fill the buffer (`written`)
    let long = rw (head_alone front nonzero) at (over-long fed more other past) in
    let written = rw (head_alone front nonzero) at (over-written fed more other past) in
    grind arith
