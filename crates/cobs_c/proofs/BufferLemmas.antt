-- The buffer of `jcobs_strerror` after the call: the text is copied as far as it and a zero fit, and the zero follows
-- it (`words-written`, the only lemma).
use Rattle.std.proofs.Common.{◌≡◌, ℕ, ◌+◌, ◌-◌, ◌<◌, ◌≤◌, min, List, [], ◌∷◌, ◌++◌, length, take, drop, set, get_or, sym, ap, ◌∙◌, arith, length-append, length-take-le, take_all, append_assoc, nat_le, true, false, ⊎_elim}
use Rattle.std.proofs.lemmas.List.{drop_more, set_at}
use Rattle.std.proofs.lemmas.Bool.{leb-true, leb-false, cases_Bool}
use Rattle.cobs.specs.Overwritten.{overwritten}

-- `words` is the text of the status, and `text` is the buffer. If the first `end` bytes of `words` are copied to the
-- buffer, and a zero is written after them, the buffer is overwritten with the text, cut to one byte less than the
-- buffer, and a zero.
pub words-written : (text words : List ℕ) (end : ℕ) → 0 < length text → end ≡ min (length words) (length text - 1)
    → set (take end words ++ drop end text) end 0 ≡ overwritten text (take (length text - 1) words ++ 0 ∷ [])
words-written text words end some is =
    -- `end` is at most the length of the text, and below the length of the buffer
    let left : end ≤ length words = omega arith in
    let right : end < length text = omega arith in
    -- the copied part has `end` bytes, and the next byte of the buffer is the byte that the zero overwrites (`more`)
    let front : length (take end words) ≡ end = length-take-le end words left in
    let more : drop end text ≡ get_or text end 0 ∷ drop (end + 1) text = drop_more text end 0 right in
    -- the text, cut to one byte less than the buffer, is the copied part: either the whole text fits, or the cut
    -- decides
    let cut : take (length text - 1) words ≡ take end words =
    ⊎_elim
    (λ (fits : nat_le (length words) (length text - 1) ≡ true).
    let le = leb-true (length words) (length text - 1) fits in
    take_all (length text - 1) words le ∙ sym (take_all end words (omega arith)))
    (λ (long : nat_le (length words) (length text - 1) ≡ false).
    let gt = leb-false (length words) (length text - 1) long in
    ap (λ (k : ℕ). take k words) (omega arith))
    (cases_Bool (nat_le (length words) (length text - 1))) in
    -- the copied part and the zero, which have end + 1 bytes
    let whole : List ℕ = take end words ++ 0 ∷ [] in
    let len : length whole ≡ end + 1 = length-append (take end words) (0 ∷ []) ∙ ap (λ (k : ℕ). k + 1) front in
    -- the zero overwrites the byte after the copied part; then the buffer is written as `overwritten` states it
    ap (λ (l : List ℕ). set (take end words ++ l) end 0) more ∙ set_at (take end words) (get_or text end 0) (drop (end + 1) text) 0 end front
    ∙ sym (append_assoc (take end words) (0 ∷ []) (drop (end + 1) text)) ∙ ap (λ (k : ℕ). whole ++ drop k text) (sym len)
    ∙ ap (λ (l : List ℕ). l ++ drop (length whole) text) (sym (take_all (length text) whole (omega arith)))
    ∙ ap (λ (l : List ℕ). overwritten text (l ++ 0 ∷ [])) (sym cut)
