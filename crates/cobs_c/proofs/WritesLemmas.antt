-- Lemmas on the postcondition of a call that writes a frame (`Writes`), if a byte is written after the frame. The call
-- gets the buffer without its last byte, so there is room for this byte. `Writes-terminated` is the main lemma;
-- `terminated` and `behind_terminator` are about the bytes before and after the end of the terminator.
use Rattle.std.proofs.Common.{◌≡◌, ◌≢◌, inl, inr, ℕ, ◌+◌, ◌≤◌, ◌<◌, List, [], ◌∷◌, ◌++◌, length, take, drop, set, refl, sym, ap, ◌∙◌, subst, arith, length-append, length-drop, length-take-le, take-append-drop}
use Rattle.std.proofs.lemmas.Bool.{leb-true, leb-false, cases_Bool, cases_eq}
use Rattle.std.proofs.lemmas.List.{drop-append-le, drop-drop, drop-set-lt, take_more_set, take-append-le}
use Rattle.cobs_c.specs.Encode.{Writes}
use Rattle.cobs_c.specs.declared.answer.Answer.{Answer}
use Rattle.cobs_c.specs.declared.answer.TheConstants.{OK}

-- a call that wants to write `size` bytes (the frame) to the buffer, and meets `Writes`
module _ {size taken : ℕ} {IsWanted : List ℕ → Type 0} {buffer : List ℕ} {result : Answer} {buffer' : List ℕ} where
  -- if the call succeeds, the bytes fit the buffer
  pub Writes-ok : Writes size taken IsWanted buffer result buffer' → result.status ≡ OK → size ≤ length buffer
  Writes-ok w ok = grind (arith, leb-true, leb-false, cases_Bool)

  -- if the call doesn't succeed, there are more bytes than the buffer has room for
  pub Writes-failed : Writes size taken IsWanted buffer result buffer' → (result.status ≡ OK → ⊥) → length buffer < size
  Writes-failed w other = grind (arith, leb-true, leb-false, cases_Bool)

-- a call that wrote n bytes, and these are the ones that it wants to write, meets `Writes`
pub Writes-ok_by : {size taken n : ℕ} {IsWanted : List ℕ → Type 0} {buffer buffer' : List ℕ} → n ≡ size → size ≤ length buffer → IsWanted (take n buffer') → drop n buffer' ≡ drop n buffer
    → Writes size taken IsWanted buffer (record { status = OK; consumed = taken; length = n }) buffer'
Writes-ok_by is fits wanted rest = record { fits = λ _. rw is refl; wanted = λ _. wanted; too_small = λ long. absurd (omega arith); rest = rest }

-- `part` is the buffer without its last byte, after a call that changed no byte from index `end` on. If the terminator
-- s is then written at index `end` of the whole buffer, the bytes after s are as they were before the call.
pub behind_terminator : (buffer part : List ℕ) (last end s : ℕ) → length part ≡ last → last < length buffer → end ≤ last → drop end part ≡ drop end (take last buffer)
    → drop (end + 1) (set (part ++ drop last buffer) end s) ≡ drop (end + 1) buffer
behind_terminator buffer part last end s len within short behind =
    -- the buffer without its last byte has `last` bytes
    let front : length (take last buffer) ≡ last = length-take-le last buffer (omega arith) in
    -- before the terminator is written, the bytes of the whole buffer from index `end` on are unchanged
    let same : drop end (part ++ drop last buffer) ≡ drop end buffer =
    drop-append-le end part (drop last buffer) (omega arith) ∙ ap (λ (l : List ℕ). l ++ drop last buffer) behind
    ∙ sym (drop-append-le end (take last buffer) (drop last buffer) (omega arith)) ∙ ap (drop end) (take-append-drop last buffer) in
    let next : end + 1 ≡ 1 + end = omega arith in
    -- s is written before index end + 1, and the bytes from there on are those of `same` without the first one
    drop-set-lt (end + 1) (part ++ drop last buffer) end s (omega arith)
    ∙ sym (drop-drop 1 end (part ++ drop last buffer)) ∙ ap (drop 1) same ∙ drop-drop 1 end buffer

-- the whole buffer with the terminator s at index `end` begins with the first `end` bytes of `part` (the frame) and s
terminated : (part rest : List ℕ) (end s : ℕ) → end ≤ length part → 0 < length rest → take (end + 1) (set (part ++ rest) end s) ≡ take end part ++ s ∷ []
terminated part rest end s within some = grind (arith, length-append, take_more_set, take-append-le)

-- `IsWanted` says which bytes are right before the terminator is written, and `IsEnded` says which bytes are right with
-- it
module _ {size taken : ℕ} {IsWanted IsEnded : List ℕ → Type 0} {buffer part : List ℕ} {result : Answer} where
  -- A call that meets `Writes` got the buffer without its last byte, left `part` there, and succeeded. If the
  -- terminator s is written after the frame, the whole buffer meets `Writes` for one byte more.
  pub Writes-terminated : (last s : ℕ) → last + 1 ≡ length buffer → length part ≡ last → Writes size taken IsWanted (take last buffer) result part → result.status ≡ OK
      → ((f : List ℕ) → IsWanted f → IsEnded (f ++ s ∷ []))
      → Writes (size + 1) taken IsEnded buffer (record { status = OK; consumed = result.consumed; length = result.length + 1 }) (set (part ++ drop last buffer) result.length s)
  Writes-terminated last s room len w ok ended =
      let front : length (take last buffer) ≡ last = length-take-le last buffer (omega arith) in
      -- the call succeeded, so the frame fits, and the result has the frame's length (`same`) and the number of
      -- consumed bytes (`consumed`)
      let fits : size ≤ length (take last buffer) = Writes-ok w ok in
      let is = w.fits fits in
      let same : result.length ≡ size = ap (λ (a : Answer). a.length) is in
      let consumed : result.consumed ≡ taken = ap (λ (a : Answer). a.consumed) is in
      record {
        fits = λ _. rw (same, consumed) refl;
        wanted = λ _.
            -- the written bytes are the frame and then the terminator
            let whole = terminated part (drop last buffer) result.length s (omega arith) (omega (arith, length-drop last buffer)) in
            subst IsEnded (sym whole) (ended (take result.length part) (w.wanted fits));
        -- this case is impossible, because the frame and the terminator fit
        too_small = λ long. absurd (omega arith);
        -- the bytes after the terminator are as they were before the call
        rest = behind_terminator buffer part last result.length s len (omega arith) (omega arith) w.rest;
      }
