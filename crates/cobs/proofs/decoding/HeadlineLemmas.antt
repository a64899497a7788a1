-- If the list that is passed to `decode`, `decode_with_sentinel` or `decode_in_place_report` is a piece, the call
-- reports the outcome of this piece (`Reported`). So it returns the message m if and only if the piece is a frame of m
-- that fits the buffer (`returns-reads`, by `outcome_message` of `OutcomeLemmas`). The clauses of these three calls
-- follow: `decode_clauses`, `source_clauses` and `in_place_clauses`.
use Rattle.std.proofs.Common.{◌≡◌, ◌≢◌, ℕ, ◌<◌, ◌≤◌, ◌↔◌, ◌⊎◌, inl, inr, false, List, [], ◌∷◌, length, take, All, Result, Ok, Err, refl, sym, ap, ◌∙◌, arith, get_or, Fits, w8}
use Rattle.std.specs.Prelude.{IfErr}
use Rattle.std.proofs.lemmas.Bool.{cases_Bool, cases_lt}
use Rattle.std.proofs.lemmas.List.Elements.{All-from_get_or, All-map, All-weaker}
use Rattle.std.specs.Int.Bits.{bit_xor, xor_lt}
use Rattle.cobs.specs.Sentinel.{xor_each}
use Rattle.cobs.specs.Overwritten.{overwritten}
use Rattle.cobs.specs.Grammar.{Reads}
use Rattle.cobs.specs.Piece.{output, kept_output, is_whole}
use Rattle.cobs.specs.Stream.{Broken, Message, Outcome, TooLong, outcome_of, head}
use Rattle.cobs.specs.Decode.{outcome_result, report_result, len_through_piece, result_of_decode, first_output, head_result_within, in_place, result_in_place, in_place_report, result_of_sentinel_decode}
use Rattle.cobs.specs.Headline.{IsPiece, ReturnsMessage, ReportsMessage}
use Rattle.cobs.specs.declared.error.DecodeReport.{DecodeReport}
use Rattle.cobs.specs.declared.error.DecodeError.{DecodeError}
use Rattle.cobs.specs.declared.error.DecodeError.TheVariants.{InvalidFrame, TargetBufTooSmall}
use Rattle.cobs.proofs.format.FrameLemmas.{frame_output}
use Rattle.cobs.proofs.decoding.KeptLemmas.{all-kept}
use Rattle.cobs.proofs.decoding.OutcomeLemmas.{first_piece_alone, head_alone, length-head, outcome_message, outcome_says, output_within}
use Rattle.cobs.proofs.decoding.ReadsLemmas.{frame_piece}
use Rattle.cobs.proofs.decoding.SourceSteps.{result-fits}
use Rattle.cobs.proofs.decoding.VectorSteps.{kept_within, overwritten-begins}

-- the elements of a slice of bytes are below 256
pub bytes_below : (bytes : List ℕ) → ((i : ℕ) → Fits w8 (get_or bytes i 0)) → All (λ b. b < 256) bytes
bytes_below bytes fits = All-from_get_or (λ b. b < 256) bytes 0 (λ i within. (fits i).fits)

-- bytes that are XORed with a byte s are below 256 too
pub xored_below : (s : ℕ) (bytes : List ℕ) → s < 256 → ((i : ℕ) → Fits w8 (get_or bytes i 0)) → All (λ b. b < 256) (xor_each s bytes)
xored_below s bytes small fits = All-map (λ b. b < 256) (λ b. bit_xor b s) bytes
    (All-weaker (λ b. b < 256) (λ b. bit_xor b s < 256) (λ b below. xor_lt 8 b s below small) bytes (bytes_below bytes fits))

-- a call reports this outcome: the message's length, and its bytes at the buffer's front, or an error
abbrev Reported : Outcome → Result ℕ DecodeError → List ℕ → Type 0
Reported (Message m) result buffer = (result ≡ Ok (length m)) × (take (length m) buffer ≡ m)
Reported (Broken count) result buffer = (error : DecodeError) × (result ≡ Err error)
Reported TooLong result buffer = (error : DecodeError) × (result ≡ Err error)

-- a call that reports an outcome returns the message m if and only if the outcome is `Message m`
reported : (outcome : Outcome) (result : Result ℕ DecodeError) (buffer m : List ℕ) → Reported outcome result buffer
    → ReturnsMessage result buffer m ↔ (outcome ≡ Message m)
reported (Message k) result buffer m h = grind arith
reported (Broken count) result buffer m h = grind arith
reported TooLong result buffer m h = grind arith

-- a call that reports the outcome of the piece f in n bytes returns m if and only if f is a frame of m that fits n
-- bytes
returns-reads : (f m : List ℕ) (n : ℕ) (result : Result ℕ DecodeError) (buffer : List ℕ) → IsPiece f → All (λ b. b < 256) f
    → Reported (outcome_of f n) result buffer → ReturnsMessage result buffer m ↔ (Reads f m × (length m ≤ n))
returns-reads f m n result buffer piece below h =
    -- `r`: the call returns m if and only if the outcome is `Message m`; `o`: this is so if and only if f is a frame of
    -- m that fits
    let r = reported (outcome_of f n) result buffer m h in
    let o = outcome_message f m n piece below in
    grind arith

-- the report of a result, which also has the number of parsed bytes, returns m if and only if the result does
reports : (parsed : ℕ) (result : Result ℕ DecodeError) (buffer m : List ℕ) (P : Type 0) → ReturnsMessage result buffer m ↔ P → ReportsMessage (report_result parsed result) buffer m ↔ P
reports parsed result buffer m P h = grind arith

-- DECODING INTO A BUFFER

-- a piece is its own first piece, so the result of `decode` for a piece is the report of its outcome
result_of_decode_alone : (f : List ℕ) (n : ℕ) → IsPiece f → result_of_decode f n ≡ report_result (len_through_piece f f) (outcome_result (outcome_of f n))
result_of_decode_alone [] n piece = grind arith
result_of_decode_alone (byte ∷ bytes) n piece = grind (arith, first_piece_alone)

-- `decode` of a piece reports the outcome of the piece
decode-reported : (f buffer buffer' : List ℕ) (outcome : Outcome) → outcome_of f (length buffer) ≡ outcome → buffer' ≡ overwritten buffer (output f)
    → Reported outcome (outcome_result outcome) buffer'
decode-reported f buffer buffer' (Message m) e is =
    let (fits, whole, same) = outcome_says f (length buffer) e in
    (refl, rw (is, same) (overwritten-begins buffer (output f) fits))
decode-reported f buffer buffer' (Broken count) e is = (InvalidFrame count, refl)
decode-reported f buffer buffer' TooLong e is = (TargetBufTooSmall, refl)

-- the clauses of `decode` follow from its result and its buffer
module _ (f old : List ℕ) (result : Result DecodeReport DecodeError) (new : List ℕ) (returned : result ≡ result_of_decode f (length old))
    (after : new ≡ overwritten old (first_output f)) (below : All (λ b. b < 256) f) where
  -- for a piece f, the report returns m if and only if f is a frame of m that fits the buffer
  decode_reported : IsPiece f → (m : List ℕ) → ReportsMessage result new m ↔ (Reads f m × (length m ≤ length old))
  decode_reported piece m =
      let written : new ≡ overwritten old (output f) = rw (first_piece_alone f piece.0 piece.1) at after in
      -- the result is the report of the outcome of f (`result_of_decode_alone`), so it returns m if and only if the
      -- outcome's result does (`reports`), and so if and only if f is a frame of m that fits (`returns-reads`)
      rw (returned, result_of_decode_alone f (length old) piece)
      (reports (len_through_piece f f) (outcome_result (outcome_of f _)) new m _
      (returns-reads f m _ (outcome_result (outcome_of f _)) new piece below (decode-reported f old new _ refl written)))

  -- all clauses of `decode`
  pub decode_clauses : record {
    answer : result ≡ result_of_decode f (length old);
    buffer : new ≡ overwritten old (first_output f);
    reads : (m : List ℕ) → Reads f m → length m ≤ length old → ReportsMessage result new m;
    only : IsPiece f → (m : List ℕ) → ReportsMessage result new m → Reads f m × (length m ≤ length old);
  }
  decode_clauses = grind (arith, decode_reported, frame_piece)

-- DECODING FROM A SOURCE FOR ANY SENTINEL

-- a piece has no zero, so it is its own head: for a piece, the result of `decode_with_sentinel` is the result for all
-- its bytes
result_of_sentinel_decode_alone : (f : List ℕ) (n : ℕ) → IsPiece f → result_of_sentinel_decode f n ≡ head_result_within f n
result_of_sentinel_decode_alone [] n piece = grind arith
result_of_sentinel_decode_alone (byte ∷ bytes) n piece = grind (arith, head_alone)

-- a piece that is broken or too long is rejected
within-rejected : (f : List ℕ) (n : ℕ) → f ≢ [] → (is_whole f ≡ false) ⊎ (n < length (output f)) → (error : DecodeError) × (head_result_within f n ≡ Err error)
within-rejected f n some either = elim (cases_lt n (length (kept_output f))) [
  -- the kept output doesn't fit
  | inl more ↦ (TargetBufTooSmall, grind arith)
  -- the kept output fits, so the piece must be broken: all output of a whole piece is kept (`all-kept`)
  | inr fits ↦ (InvalidFrame (length (kept_output f)), grind (arith, all-kept, cases_Bool, result-fits))
]

-- `decode_with_sentinel` reports the outcome of a piece
source-reported : (f buffer buffer' : List ℕ) (outcome : Outcome) → outcome_of f (length buffer) ≡ outcome → f ≢ []
    → buffer' ≡ overwritten buffer (kept_output f) → Reported outcome (head_result_within f (length buffer)) buffer'
source-reported f buffer buffer' (Message m) e some is =
    let (fits, whole, same) = outcome_says f (length buffer) e in
    -- the piece is whole, so its whole output is kept, and it fits: the result isn't `TargetBufTooSmall`
    -- (`result-fits`)
    let kept = all-kept f whole in
    (sym (result-fits f _ (omega (arith, ap length kept))) ∙ (grind arith), rw (is, kept, same) (overwritten-begins buffer (output f) fits))
source-reported f buffer buffer' (Broken count) e some is = within-rejected f (length buffer) some (inl (outcome_says f (length buffer) e).1)
source-reported f buffer buffer' TooLong e some is = within-rejected f (length buffer) some (inr (outcome_says f (length buffer) e))

-- the clauses of `decode_with_sentinel` follow from its result and its buffer
module _ (f old : List ℕ) (result : Result ℕ DecodeError) (new : List ℕ) (returned : result ≡ result_of_sentinel_decode f (length old))
    (after : new ≡ overwritten old (kept_output (head f))) (below : All (λ b. b < 256) f) where
  -- for a piece f, the result returns m if and only if f is a frame of m that fits the buffer
  source_reported : IsPiece f → (m : List ℕ) → ReturnsMessage result new m ↔ (Reads f m × (length m ≤ length old))
  source_reported piece m =
      let written : new ≡ overwritten old (kept_output f) = rw (head_alone f piece.1) at after in
      -- for a piece, the result is `head_result_within f`, which reports the outcome of f (`source-reported`)
      rw (returned, result_of_sentinel_decode_alone f (length old) piece)
      (returns-reads f m _ _ new piece below (source-reported f old new _ refl piece.0 written))

  -- all clauses of `decode_with_sentinel`
  pub source_clauses : record {
    answer : result ≡ result_of_sentinel_decode f (length old);
    buffer : new ≡ overwritten old (kept_output (head f));
    reads : (m : List ℕ) → Reads f m → length m ≤ length old → ReturnsMessage result new m;
    only : IsPiece f → (m : List ℕ) → ReturnsMessage result new m → Reads f m × (length m ≤ length old);
  }
  source_clauses = grind (arith, source_reported, frame_piece)

-- DECODING IN PLACE, WHERE THE BUFFER IS THE SOURCE

-- decoding in place has the result of decoding into another buffer of the same length
in_place-source : (f : List ℕ) → result_in_place f ≡ result_of_sentinel_decode f (length f)
in_place-source [] = refl
in_place-source (byte ∷ bytes) = grind (arith, kept_within, length-head)

-- an error of `decode_in_place_report` isn't `TargetBufTooSmall`
in_place-room : (f : List ℕ) (result : Result DecodeReport DecodeError) → result ≡ in_place_report f → IfErr result (λ error. error ≢ TargetBufTooSmall)
in_place-room [] result is = grind arith
in_place-room (byte ∷ bytes) result is = grind arith

-- the clauses of `decode_in_place_report` follow from its report and its buffer
module _ (f : List ℕ) (result : Result DecodeReport DecodeError) (new : List ℕ) (returned : result ≡ in_place_report f) (after : new ≡ in_place f)
    (below : All (λ b. b < 256) f) where
  -- for a piece f, the report returns m if and only if f is a frame of m that fits the buffer
  in_place_reported : IsPiece f → (m : List ℕ) → ReportsMessage result new m ↔ (Reads f m × (length m ≤ length f))
  in_place_reported piece m =
      -- the report has the result of decoding in place, which is that of `decode_with_sentinel` for a buffer of the
      -- same length (`in_place-source`), so `source_reported` holds for it
      rw returned
      (reports (length (head f)) (result_in_place f) new m _ (source_reported f f (result_in_place f) new (in_place-source f) after below piece m))

  -- all clauses of `decode_in_place_report`
  pub in_place_clauses : record {
    answer : result ≡ in_place_report f;
    buffer : new ≡ in_place f;
    reads : (m : List ℕ) → Reads f m → ReportsMessage result new m;
    only : IsPiece f → (m : List ℕ) → ReportsMessage result new m → Reads f m;
    room : IfErr result (λ error. error ≢ TargetBufTooSmall);
  }
  in_place_clauses = grind (arith, in_place_reported, frame_piece, frame_output, output_within, in_place-room)
