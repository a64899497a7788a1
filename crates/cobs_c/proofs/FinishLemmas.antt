-- Lemmas on the postcondition of a call that ends a frame (`Finishes`). It is still true for another sentinel if each
-- byte of the frame is XORed (`Finishes-changed`). A terminator may follow the frame if the call got the buffer without
-- its last byte (`Finishes-ended`).
-- `law_2`: Each message has one encoded frame.
-- `law_6`: No frame contains its sentinel; a second XOR restores the frame.
-- `law_13`: The open frame of a streaming encoder.
use Rattle.std.proofs.Common.{◌≡◌, ◌≢◌, ◌∙◌, ◌++◌, ◌+◌, ◌<◌, ◌≤◌, ℕ, nat_le, true, false, List, [], ◌∷◌, All, length, take, drop, set, refl, sym, ap, subst, arith, take_at, length-append, length-drop, length-take-le, take-append-drop, ⊎_elim, inl, inr}
use Rattle.std.proofs.lemmas.Bool.{leb-true, leb-false, cases_Bool, cases_eq}
use Rattle.std.proofs.lemmas.List.{length-map, length-set, take-take}
use Rattle.std.proofs.lemmas.Slice.{drop-append-drop}
use Rattle.std.specs.Int.Bits.{bit_xor}
use Rattle.cobs.specs.Grammar.{IsEncodedFrame, IsFrame}
use Rattle.cobs.specs.Fields.Encoders.{reached_by}
use Rattle.cobs.specs.Length.{encoded_len}
use Rattle.cobs.specs.OpenBlock.{CobsEncoderAfter, Reached, end_of}
use Rattle.cobs.specs.Sentinel.{xor_each}
use Rattle.cobs.specs.declared.UnbufferedEncoder.{UnbufferedEncoder}
use Rattle.cobs_c.proofs.WritesLemmas.{Writes-failed, Writes-terminated, behind_terminator}
use Rattle.cobs_c.specs.Encode.{Writes}
use Rattle.cobs_c.specs.Frames.{IsFrameOnWire, IsFrameOnWireFor}
use Rattle.cobs_c.specs.Stream.{Finishes}
use Rattle.cobs_c.specs.declared.answer.Answer.{Answer}
use Rattle.cobs_c.specs.declared.answer.TheConstants.{OK}
pub use Rattle.cobs.proofs.bytes.XoredLemmas.{xor_each-zero}

-- `free` and `back` are clauses of `law_6`: a frame that is XORed with s contains no s, and a second XOR with s
-- restores the bytes
module _ (free : (f : List ℕ) (s : ℕ) → IsFrame f → All (λ byte. byte ≢ s) (xor_each s f)) (back : (f : List ℕ) (s : ℕ) → xor_each s (xor_each s f) ≡ f) where
  -- A call ended the message and left `part` in the buffer, and then each byte of the frame was XORed with s
  -- (`changed`). Both steps together meet `Finishes` for the sentinel s.
  pub Finishes-changed : {encoder encoder' : UnbufferedEncoder} {buffer part changed : List ℕ} {result : Answer} (s : ℕ) → changed ≡ xor_each s (take result.length part)
      → Finishes 0 IsFrameOnWire encoder buffer result encoder' part → Finishes 0 (IsFrameOnWireFor s) encoder buffer result encoder' (changed ++ drop result.length part)
  Finishes-changed {encoder} {encoder'} {buffer} {part} {changed} {result} s is f =
      -- the frame that the call wrote; it lies within the buffer
      let frame : List ℕ = take result.length part in
      let within : result.length ≤ length part = omega (arith, f.bound, f.len) in
      -- XOR doesn't change the number of bytes, so the changed buffer begins with the XORed frame (`front`), and the
      -- bytes after the frame are as the call left them (`behind`)
      let len : length changed ≡ result.length = ap length is ∙ length-map frame (λ b. bit_xor b s) ∙ length-take-le result.length part within in
      let front : take result.length (changed ++ drop result.length part) ≡ xor_each s frame = take_at changed (drop result.length part) result.length len ∙ is in
      let behind : drop result.length (changed ++ drop result.length part) ≡ drop result.length part = drop-append-drop result.length part changed result.length (omega arith) len in
      record {
        -- for a message m that the encoder has taken: the facts of `w` are those before the XOR
        writes = λ m h.
            let w = f.writes m h in
            record {
              fits = w.fits;
              -- the written bytes don't contain s (`free`), and XORed with s again they are the frame that encoders
              -- write for m (`back`)
              wanted = λ room.
                  let g = w.wanted room in
                  subst (λ (x : List ℕ). IsFrameOnWireFor s x m) (sym front) (subst (λ (x : List ℕ). IsEncodedFrame x m) (sym (back frame s)) g.0, free frame s (m, g.0.reads));
              too_small = w.too_small;
              rest = behind ∙ w.rest;
            };
        -- the XOR changes neither the result nor the encoder, so these fields are those of the call before the XOR
        returned = f.returned;
        fresh = f.fresh;
        too_small = f.too_small;
        rejected = f.rejected;
        empty = f.empty;
        -- the bytes after the frame are as they were, and the buffer keeps its length
        rest = behind ∙ f.rest;
        bound = f.bound;
        len = length-append changed (drop result.length part) ∙ omega (arith, len, within, f.len, length-drop result.length part);
      }

-- `counted` is a clause of `law_2`: the encoded frame of m has `encoded_len m` bytes. `end` is a clause of `law_13`: if
-- an encoder has taken m, the frame so far ends at index `encoded_len m`.
module _ (counted : (f m : List ℕ) → IsEncodedFrame f m → length f ≡ encoded_len m) (end : (slice m : List ℕ) (reached : Reached) → CobsEncoderAfter slice reached m → end_of reached ≡ encoded_len m) where
  -- an encoder that has taken m in a slice has also taken m in the first `last` bytes of the slice, if the frame of m
  -- fits them
  After-front : (slice m : List ℕ) (reached : Reached) (last : ℕ) → last ≤ length slice → encoded_len m ≤ last → CobsEncoderAfter slice reached m → CobsEncoderAfter (take last slice) reached m
  After-front slice m reached last within fits h =
      -- the length of the frame, which is at most `last`
      let len = counted h.frame m h.encoded in
      record {
        frame = h.frame;
        encoded = h.encoded;
        follows = h.follows;
        fits = omega (arith, len, length-take-le last slice within);
        -- the frame so far lies within the first `last` bytes, so they have the same first bytes as the slice
        begins = (h.begins.0, take-take (length h.frame) last slice (omega arith) ∙ h.begins.1);
        noted = h.noted;
      }

  -- A call that meets `Finishes 0` got the buffer without its last byte, and left `part` there. The caller then writes
  -- the terminator s after the frame. `IsWanted` says which bytes are right before this, and `IsEnded` says which bytes
  -- are right with the terminator.
  module _ {IsWanted IsEnded : List ℕ → List ℕ → Type 0} {encoder encoder' : UnbufferedEncoder} {buffer part : List ℕ} {result : Answer} (last s : ℕ) (room : last + 1 ≡ length buffer) (len : length part ≡ last)
      (f : Finishes 0 IsWanted encoder (take last buffer) result encoder' part) where
    -- if that call succeeded, the frame and the terminator together meet `Finishes 1`
    Finishes-terminated : ((x m : List ℕ) → IsWanted x m → IsEnded (x ++ s ∷ []) m) → result.status ≡ OK
        → Finishes 1 IsEnded encoder buffer (record { status = OK; consumed = result.consumed; length = result.length + 1 }) encoder' (set (part ++ drop last buffer) result.length s)
    Finishes-terminated ended ok =
        let front : length (take last buffer) ≡ last = length-take-le last buffer (omega arith) in
        -- the length is the index at which the encoder's frame ends (`end_at`), and no byte was consumed (`consumed`)
        let end_at : result.length ≡ end_of (reached_by encoder) + 0 = ap (λ (a : Answer). a.length) (f.returned ok) in
        let consumed : result.consumed ≡ 0 = ap (λ (a : Answer). a.consumed) (f.returned ok) in
        record {
          writes = λ m h.
              -- the frame of m fits the buffer without its last byte, so the encoder has taken m there too
              -- (`After-front`), and `w` is the fact `Writes` of the call for m
              let fits : encoded_len m ≤ last = omega (arith, end_at, end buffer m (reached_by encoder) h, f.bound, front) in
              let w = f.writes m (After-front buffer m (reached_by encoder) last (omega arith) fits h) in
              -- the frame and the terminator have one byte more than the frame
              let size : encoded_len m + 0 + 1 ≡ encoded_len m + 1 = omega arith in
              subst (λ (n : ℕ). Writes n 0 (λ bytes. IsEnded bytes m) buffer (record { status = OK; consumed = result.consumed; length = result.length + 1 }) (set (part ++ drop last buffer) result.length s))
              size (Writes-terminated last s room len w ok (λ (x : List ℕ) e. ended x m e));
          -- the length is one more than that of the call before, and the encoder is fresh
          returned = λ _. ap (λ (n : ℕ). record { status = OK; consumed = n; length = result.length + 1 }) consumed
              ∙ ap (λ (n : ℕ). record { status = OK; consumed = 0; length = n }) (omega (arith, end_at));
          fresh = λ _. f.fresh ok;
          -- the status is OK, and the buffer has at least one byte, so the premises of these three fields are false
          too_small = λ other. absurd (other refl);
          rejected = λ other. absurd (other refl);
          empty = λ none. absurd (omega arith);
          -- the bytes after the terminator are unchanged, since the call changed no byte after the frame
          rest = behind_terminator buffer part last result.length s len (omega arith) (omega (arith, f.bound, front)) f.rest;
          bound = omega (arith, f.bound, front);
          len = length-set (part ++ drop last buffer) result.length s ∙ length-append part (drop last buffer) ∙ omega (arith, length-drop last buffer);
        }

    -- if that call failed, the frame and the terminator don't fit the buffer either, and nothing has changed
    Finishes-no_room : result.status ≢ OK → Finishes 1 IsEnded encoder buffer result encoder' (part ++ drop last buffer)
    Finishes-no_room other =
        let front : length (take last buffer) ≡ last = length-take-le last buffer (omega arith) in
        -- the call reported the length 0, so it changed no byte (`same`)
        let none : result.length ≡ 0 = ap (λ (a : Answer). a.length) (f.too_small other) in
        let same : part ≡ take last buffer = rw none at f.rest in
        -- no byte of the whole buffer has changed
        let rest : drop result.length (part ++ drop last buffer) ≡ drop result.length buffer
        = ap (λ (l : List ℕ). drop result.length (l ++ drop last buffer)) same ∙ ap (drop result.length) (take-append-drop last buffer) in
        record {
          writes = λ m h.
              -- The frame of m is longer than the buffer without its last byte: otherwise the encoder had taken m there
              -- (`After-front`), and the call wouldn't have failed (`Writes-failed`). The two cases are that the frame
              -- fits, and that it doesn't.
              let long : last < encoded_len m =
              ⊎_elim (λ (short : nat_le (encoded_len m) last ≡ true).
              omega (arith, front, Writes-failed (f.writes m (After-front buffer m (reached_by encoder) last (omega arith) (leb-true (encoded_len m) last short) h)) other))
              (λ (long : nat_le (encoded_len m) last ≡ false). leb-false (encoded_len m) last long)
              (cases_Bool (nat_le (encoded_len m) last)) in
              record {
                -- so the frame and the terminator are longer than the buffer, and the premises of these two fields are
                -- false
                fits = λ short. absurd (omega arith);
                wanted = λ short. absurd (omega arith);
                too_small = λ _. f.too_small other;
                rest = rest;
              };
          -- the status isn't OK, so the premises of these two fields are false
          returned = λ ok. absurd (other ok);
          fresh = λ ok. absurd (other ok);
          -- the result and the encoder are those of the call that failed, and no byte has changed (`rest`)
          too_small = f.too_small;
          rejected = f.rejected;
          empty = λ _. f.too_small other;
          rest = rest;
          bound = omega arith;
          len = length-append part (drop last buffer) ∙ omega (arith, length-drop last buffer);
        }

    -- The caller writes the terminator only if that call succeeded, and returns `answer`. `written` and `kept` are the
    -- clauses of `terminated`.
    pub Finishes-ended : {answer : Answer} {buffer' : List ℕ} → ((x m : List ℕ) → IsWanted x m → IsEnded (x ++ s ∷ []) m)
        → (result.status ≡ OK → (answer ≡ record { status = OK; consumed = result.consumed; length = result.length + 1 }) × (buffer' ≡ set (part ++ drop last buffer) result.length s))
        → (result.status ≢ OK → (answer ≡ result) × (buffer' ≡ part ++ drop last buffer))
        → Finishes 1 IsEnded encoder buffer answer encoder' buffer'
    Finishes-ended ended written kept = elim (cases_eq result.status OK) [
      | inl ok ↦ rw ((written ok).0, (written ok).1) (Finishes-terminated ended ok)
      | inr other ↦ rw ((kept other).0, (kept other).1) (Finishes-no_room other)
    ]
