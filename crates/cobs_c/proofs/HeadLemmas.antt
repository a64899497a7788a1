-- Lemmas on the bytes before a buffer's first sentinel s, which are decoded in their own place. XORed with s, these
-- bytes are the head of the XORed buffer (`is_head`). So the result and the buffer are those that the postcondition
-- states for the whole buffer (`front-end`, `front-result`, `front-buffer`). If the buffer begins with s, nothing is
-- decoded (`sentinel-result`, `sentinel-buffer`).
use Rattle.std.proofs.Common.{length-append, take-append-drop, Result, Option, Ok, Err, ◌≡◌, ◌≢◌, ◌∙◌, ◌⊎◌, inl, inr, ◌++◌, ◌+◌, ◌≤◌, ℕ, List, [], ◌∷◌, All, length, take, drop, min, refl, sym, ap, subst, arith, take_all, length-take-le}
use Rattle.std.proofs.lemmas.List.{length-map, take-map, take-take, drop_all}
use Rattle.std.specs.Int.Bits.{bit_xor}
use Rattle.cobs.specs.Decode.{head_result, in_place, in_place_report, report_result, result_in_place}
use Rattle.cobs.specs.FeedPiece.{end_reported}
use Rattle.cobs.specs.declared.PieceEnd.{PieceEnd}
use Rattle.cobs_c.proofs.AnswerLemmas.{answer-refused}
use Rattle.std.proofs.lemmas.Slice.{drop-append-drop}
use Rattle.cobs_c.specs.declared.answer.Answer.{Answer}
use Rattle.cobs.specs.Overwritten.{overwritten}
use Rattle.cobs.specs.declared.DecodeError.{DecodeError}
use Rattle.cobs.specs.declared.DecodeError.TheVariants.{InvalidFrame}
use Rattle.cobs.proofs.decoding.HeadLemmas.{head-front}
use Rattle.cobs.proofs.decoding.OutcomeLemmas.{head-append, head_alone, head_nonzero, length-head}
use Rattle.cobs.proofs.decoding.VectorSteps.{kept_within}
use Rattle.std.proofs.lemmas.List.Elements.{All-take}
use Rattle.std.proofs.lemmas.Bool.{cases_Bool}
use Rattle.cobs.specs.Piece.{kept_output}
use Rattle.cobs.specs.Grammar.{HasNoZero}
use Rattle.cobs.specs.Sentinel.{xor_each}
use Rattle.cobs.specs.Stream.{head}
use Rattle.cobs_c.specs.Answer.{result_by, size_by, head_end}
use Rattle.cobs_c.specs.declared.answer.TheConstants.{OK}

-- If g consists of the bytes of t before its first zero, and has no zero, decoding g in place has the same result as
-- decoding t in place. One case is left out: t isn't empty, but g is. There the results differ.
same_result : (g t : List ℕ) → g ≡ head t → head g ≡ g → (length t ≡ 0) ⊎ (length g ≢ 0) → result_in_place g ≡ result_in_place t
unfolding head
same_result [] [] e h some = refl
same_result [] (b ∷ t) e h some = elim some [ inl none ↦ absurd (omega (arith, none)) | inr some ↦ absurd (some refl) ]
same_result (x ∷ g) [] e h some = absurd cc
same_result (x ∷ g) (b ∷ t) e h some = ap head_result (h ∙ e)

-- for a list t that begins with a zero, the result that `DecodesInPlace` states is: this zero is consumed, and the
-- message is empty
empty_result : (t : List ℕ) (n : ℕ) → head t ≡ [] → length t ≢ 0 → record { status = OK; consumed = 1; length = 0 } ≡ result_by (head_end t) n (result_in_place t)
empty_result [] n e some = absurd (some refl)
empty_result (b ∷ t) n e some =
    -- one byte is consumed, because no byte precedes the zero
    let one : head_end (b ∷ t) ≡ 1 = omega (arith, ap length e) in
    sym (ap (λ (h : List ℕ). result_by (head_end (b ∷ t)) n (head_result h)) e ∙ ap (λ (k : ℕ). record { status = OK; consumed = k; length = 0 }) one)

-- if the frame is empty, no byte is overwritten, and the buffer stays the same
nothing_written : (xs buffer : List ℕ) → buffer ≡ overwritten [] xs ++ drop 0 buffer
nothing_written [] buffer = refl
nothing_written (x ∷ xs) buffer = refl

-- `end` is the number of bytes before the buffer's first sentinel s, or of all bytes if the buffer has no s
module _ (buffer : List ℕ) (end s : ℕ) (is : end ≡ length (head (xor_each s buffer))) where
  -- the call consumes the bytes before `end`, and the sentinel after them if there is one
  pub front-end : min (length buffer) (end + 1) ≡ head_end (xor_each s buffer)
  front-end = omega (arith, is, length-map buffer (λ b. bit_xor b s))

  -- XORed with s, the bytes before `end` are the head of the XORed buffer
  is_head : xor_each s (take end buffer) ≡ head (xor_each s buffer)
  is_head = sym (take-map (λ b. bit_xor b s) end buffer) ∙ ap (λ (k : ℕ). take k (xor_each s buffer)) is ∙ head-front (xor_each s buffer)

  -- there are `end` of these bytes
  len : length (xor_each s (take end buffer)) ≡ end
  len = ap length is_head ∙ sym is

  -- XORed with s, they contain no zero, so they are their own head
  head_of_front : head (xor_each s (take end buffer)) ≡ xor_each s (take end buffer)
  head_of_front = subst (λ (f : List ℕ). head f ≡ f) (sym is_head) (head_alone (head (xor_each s buffer)) (head_nonzero (xor_each s buffer)))

  -- unless the buffer begins with a sentinel, the result for the bytes before `end` is the result for the whole XORed
  -- buffer
  pub front-result : (end ≡ 0 × length buffer ≡ 0) ⊎ (end ≢ 0) → result_in_place (xor_each s (take end buffer)) ≡ result_in_place (xor_each s buffer)
  front-result some =
      -- there are as many XORed bytes as bytes, so the case that `same_result` leaves out is the one that the premise
      -- of `front-result` leaves out
      same_result (xor_each s (take end buffer)) (xor_each s buffer) is_head head_of_front
      (elim some [ inl none ↦ inl (length-map buffer (λ b. bit_xor b s) ∙ none.1) | inr some ↦ inr (λ none. some (sym len ∙ none)) ])

  -- if only the bytes before `end` are decoded in place, the buffer is the one that `DecodesInPlaceFor` states
  pub front-buffer : in_place (xor_each s (take end buffer)) ++ drop end buffer ≡ (let frame = head (xor_each s buffer) in overwritten frame (kept_output frame) ++ drop (length frame) buffer)
  front-buffer =
      -- the XORed bytes are their own head, there are `end` of them, and they are the head of the XORed buffer
      ap (λ (h : List ℕ). overwritten (xor_each s (take end buffer)) (kept_output h) ++ drop end buffer) head_of_front
      ∙ ap (λ (k : ℕ). overwritten (xor_each s (take end buffer)) (kept_output (xor_each s (take end buffer))) ++ drop k buffer) (sym len)
      ∙ ap (λ (f : List ℕ). overwritten f (kept_output f) ++ drop (length f) buffer) is_head

  -- the buffer begins with a sentinel
  module _ (none : end ≡ 0) (some : length buffer ≢ 0) where
    -- the head of the XORed buffer is empty
    no_head : head (xor_each s buffer) ≡ []
    no_head = sym is_head ∙ ap (λ (k : ℕ). xor_each s (take k buffer)) none

    -- only the sentinel is consumed, and the message is empty; this is the result that `DecodesInPlaceFor` states
    pub sentinel-result : (n : ℕ) → record { status = OK; consumed = 1; length = 0 } ≡ result_by (head_end (xor_each s buffer)) n (result_in_place (xor_each s buffer))
    sentinel-result n = empty_result (xor_each s buffer) n no_head (λ e. some (sym (length-map buffer (λ b. bit_xor b s)) ∙ e))

    -- the buffer stays the same; this is the buffer that `DecodesInPlaceFor` states
    pub sentinel-buffer : buffer ≡ (let frame = head (xor_each s buffer) in overwritten frame (kept_output frame) ++ drop (length frame) buffer)
    -- the head is empty (`no_head`), so no byte is overwritten
    sentinel-buffer = nothing_written (kept_output []) buffer ∙ sym (ap (λ (f : List ℕ). overwritten f (kept_output f) ++ drop (length f) buffer) no_head)

-- if `decode_in_place_report` returned an error, it is the error of the buffer
in_place-refused : (k : ℕ) (r : Result ℕ DecodeError) (error : DecodeError) → Err error ≡ report_result k r → r ≡ Err error
in_place-refused k (Ok size) error e = absurd (cc)
in_place-refused k (Err other) error e = cc

-- an error for h, the bytes before the first zero, has the length of the kept output of h
head-refused : (h : List ℕ) (error : DecodeError) → head_result h ≡ Err error → error ≡ InvalidFrame (length (kept_output h))
head-refused [] error e = absurd (cc)
head-refused (byte ∷ h) error e = grind (arith, cases_Bool)

-- at most as many bytes as precede the first zero are overwritten, and no byte from index w on is, if w is the length
-- for the error
kept-rest : (source new : List ℕ) (error : DecodeError) (w : ℕ) → result_in_place source ≡ Err error → w ≡ (result_by 0 (length source) (Err error)).length → new ≡ in_place source
    → (w ≤ length (head source)) × (drop w new ≡ drop w source)
kept-rest [] new error w is len after = grind (arith, drop_all)
kept-rest (byte ∷ bytes) new error w is len after =
    let source : List ℕ = byte ∷ bytes in
    let kept : List ℕ = kept_output (head source) in
    let size : w ≡ length kept = len ∙ ap (λ (e : DecodeError). (result_by 0 (length source) (Err e)).length) (head-refused (head source) error is) in
    let short = kept_within (head source) in
    let whole : take (length source) kept ≡ kept = take_all (length source) kept (omega (arith, short, length-head source)) in
    (omega (arith, size, short), ap (drop w) (after ∙ ap (λ (l : List ℕ). l ++ drop (length kept) source) whole) ∙ drop-append-drop (length kept) source kept w (omega (arith, size)) refl)

-- `decode_in_place_report` returned an error, and `answer_of` returned `broken` for it
module _ (source new : List ℕ) (error : DecodeError) (reported : Option PieceEnd) (broken : Answer) (is : Err error ≡ in_place_report source) (end : reported ≡ end_reported (Err error)) (answer : broken ≡ result_by 0 (length source) (size_by reported)) where
  -- `broken` is the result for the buffer, but for the number of consumed bytes
  pub refused-answer : broken ≡ result_by 0 (length source) (result_in_place source)
  refused-answer = answer-refused 0 (length source) (in_place-refused _ (result_in_place source) error is) end answer

  -- the output lies before the first zero, and the bytes after it are unchanged
  pub refused-rest : new ≡ in_place source → (broken.length ≤ length (head source)) × (drop broken.length new ≡ drop broken.length source)
  refused-rest after =
      let refused = in_place-refused _ (result_in_place source) error is in
      kept-rest source new error broken.length refused (ap (λ (a : Answer). a.length) (refused-answer ∙ ap (result_by 0 (length source)) refused)) after

-- if w is at most the number of bytes before the first zero, the first zero from index w on is the first zero
pub refused-end : (buffer : List ℕ) (w : ℕ) → w ≤ length (head buffer) → w + length (head (drop w buffer)) ≡ length (head buffer)
refused-end buffer w short =
    -- none of the first w bytes is a zero
    let none : HasNoZero (take w buffer) = subst (λ (l : List ℕ). All (λ b. b ≢ 0) l) (ap (take w) (sym (head-front buffer)) ∙ take-take w (length (head buffer)) buffer short) (All-take (λ b. b ≢ 0) w (head buffer) (head_nonzero buffer)) in
    let apart : head buffer ≡ take w buffer ++ head (drop w buffer) = ap head (sym (take-append-drop w buffer)) ∙ head-append (take w buffer) (drop w buffer) none in
    omega (arith, ap length apart, length-append (take w buffer) (head (drop w buffer)), length-take-le w buffer (omega (arith, short, length-head buffer)))
