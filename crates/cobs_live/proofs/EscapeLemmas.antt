-- Lemmas on text that is escaped in a JSON string. A *run* is a front of the text that needs no escape: escaped, it
-- stays the same. A run is extended by plain bytes (`run_past`) or by a character that needs no escape
-- (`past_char_run`). Then the front of the text that was written is the run and the escape of the character after it
-- (`front_escaped`), and at the end the whole text is written (`front-end`).
use Rattle.std.proofs.Common.{◌≡◌, ◌<◌, ◌+◌, ◌==◌, ◌||◌, nat_lt, false, ℕ, List, [], ◌∷◌, ◌++◌, All, IsTrue, Option, Result, Ok, Err, codes, length, take, drop, refl, sym, ap, subst, ◌∙◌, arith, chars, IsUtf8, append_assoc, append-nil}
use Rattle.std.specs.Io.KnownBytes.{Appends}
use Rattle.std.proofs.KnownBytes.{Appends-trans}
use Rattle.std.proofs.lemmas.Bool.{eq-eqb}
use Rattle.std.specs.Prelude.{OnOk}
use Rattle.std.proofs.Math.Seq.{take-add, take-append_seam}
use Rattle.std.proofs.lemmas.List.{drop-drop, drop_at, nil_from_length, take-append-drop}
use Rattle.std.specs.Char.{encode_utf8, len_utf8}
use Rattle.std.specs.Str.{IsCharBoundary}
use Rattle.std.proofs.lemmas.List.Concat.{flat_map-cons}
use Rattle.std.proofs.lemmas.List.Elements.{All-head, All-tail}
use Rattle.std.proofs.lemmas.Str.{IsCharBoundary-past_char, IsUtf8-drop, IsUtf8-past_char, chars-nil, chars_past_char, encode_ascii, length-encode, utf8_valid_len-IsUtf8}
use Rattle.cobs_live.specs.Json.{json_text}
use Rattle.cobs_live.specs.Escaped.{WritesFront, escaped, is_hidden, is_plain_byte, text_escaped}

-- if a text is the character c and then `rest`, the escaped text is the escape of c and then the escaped `rest`
pub char_escaped : (text rest : List ℕ) (c : ℕ) → IsUtf8 text → text ≡ encode_utf8 c ++ rest → text_escaped text ≡ escaped c ++ text_escaped rest
char_escaped text rest c u e = grind (arith, chars_past_char, flat_map-cons, chars)

-- a byte that needs no escape (`is_plain_byte`) is ASCII
pub plain_below : (b : ℕ) → IsTrue (is_plain_byte b) → b < 128
plain_below b h = grind arith

-- a byte that needs no escape isn't hidden
plain_unseen : (b : ℕ) → IsTrue (is_plain_byte b) → is_hidden b ≡ false
plain_unseen b h = grind (arith, nat_lt)

-- a byte that needs no escape is neither a quote (34) nor a backslash (92)
plain_unquoted : (b : ℕ) → IsTrue (is_plain_byte b) → ((b == 34) || (b == 92)) ≡ false
plain_unquoted b h = grind arith

-- so a byte that needs no escape is written as it is
plain_escaped : (b : ℕ) → IsTrue (is_plain_byte b) → escaped b ≡ b ∷ []
plain_escaped b h = rw (plain_unseen b h, plain_unquoted b h) (encode_ascii b (plain_below b h))

-- if a text begins with bytes that need no escape (`run`), the escaped text is these bytes and then the escaped `rest`
pub run_escaped : (run rest : List ℕ) → IsUtf8 (run ++ rest) → All (λ byte. IsTrue (is_plain_byte byte)) run → text_escaped (run ++ rest) ≡ run ++ text_escaped rest
run_escaped [] rest u all = refl
run_escaped (b ∷ run) rest u all =
    let plain : IsTrue (is_plain_byte b) = All-head (λ byte. IsTrue (is_plain_byte byte)) b run all in
    -- the text begins with the character b, and the bytes after it are UTF-8 (`later`)
    let first : (b ∷ (run ++ rest)) ≡ encode_utf8 b ++ (run ++ rest) = ap (λ (l : List ℕ). l ++ (run ++ rest)) (sym (encode_ascii b (plain_below b plain))) in
    let later = IsUtf8-past_char (b ∷ (run ++ rest)) (run ++ rest) b u first in
    char_escaped (b ∷ (run ++ rest)) (run ++ rest) b u first ∙ ap (λ (l : List ℕ). l ++ text_escaped (run ++ rest)) (plain_escaped b plain) ∙ ap (λ (l : List ℕ). b ∷ l) (run_escaped run rest later (All-tail (λ byte. IsTrue (is_plain_byte byte)) b run all))

-- if the first `run` bytes of a text need no escape, they are a run
pub front_run : (text : List ℕ) (run : ℕ) → IsUtf8 text → All (λ byte. IsTrue (is_plain_byte byte)) (take run text) → text_escaped text ≡ take run text ++ text_escaped (drop run text)
front_run text run u all =
    let whole : take run text ++ drop run text ≡ text = take-append-drop run text in
    ap text_escaped (sym whole) ∙ run_escaped (take run text) (drop run text) (subst IsUtf8 (sym whole) u) all

-- a run, and a run of `more` bytes after it, are a run of run + more bytes
run_more : (text : List ℕ) (run more : ℕ) → text_escaped text ≡ take run text ++ text_escaped (drop run text) → text_escaped (drop run text) ≡ take more (drop run text) ++ text_escaped (drop more (drop run text))
    → text_escaped text ≡ take (run + more) text ++ text_escaped (drop (run + more) text)
run_more text run more first second = grind (arith, append_assoc, take-add, drop-drop)

-- a run that ends at a character boundary, and `more` bytes after it that need no escape, are a run
pub run_past : (text rest : List ℕ) (run more : ℕ) → IsUtf8 text → IsCharBoundary text run → rest ≡ drop run text → All (λ byte. IsTrue (is_plain_byte byte)) (take more rest) → text_escaped text ≡ take run text ++ text_escaped (drop run text)
    → text_escaped text ≡ take (run + more) text ++ text_escaped (drop (run + more) text)
run_past text rest run more u b is all same = grind (arith, run_more, front_run, IsUtf8-drop)

-- a character c at the front of a text that needs no escape is a run
char_run : (text rest : List ℕ) (c : ℕ) → IsUtf8 text → text ≡ encode_utf8 c ++ rest → escaped c ≡ encode_utf8 c → text_escaped text ≡ take (len_utf8 c) text ++ text_escaped (drop (len_utf8 c) text)
char_run text rest c u split same = grind (arith, drop_at, length-encode, take-append_seam, char_escaped)

-- if a run ends at a character boundary, the run and the n bytes of the character c after it also end at one
pub past_char : (text rest : List ℕ) (run c n : ℕ) → IsUtf8 text → IsCharBoundary text run → drop run text ≡ encode_utf8 c ++ rest → n ≡ len_utf8 c → IsCharBoundary text (run + n)
past_char text rest run c n u b split is = subst (λ (k : ℕ). IsCharBoundary text (run + k)) (sym is) (IsCharBoundary-past_char text rest run c b.0 (IsUtf8-drop text run u b) split)

-- a run, and the n bytes of a character c after it that needs no escape, are a run
pub past_char_run : (text rest : List ℕ) (run c n : ℕ) → IsUtf8 text → IsCharBoundary text run → drop run text ≡ encode_utf8 c ++ rest → n ≡ len_utf8 c → escaped c ≡ encode_utf8 c → text_escaped text ≡ take run text ++ text_escaped (drop run text)
    → text_escaped text ≡ take (run + n) text ++ text_escaped (drop (run + n) text)
past_char_run text rest run c n u b split is plain same = grind (arith, run_more, char_run, IsUtf8-drop)

-- if the character c follows a run, the escaped text is the run, the escape of c, and then the escaped `rest`
pub front_escaped : (text rest : List ℕ) (run c : ℕ) → IsUtf8 (drop run text) → text_escaped text ≡ take run text ++ text_escaped (drop run text) → drop run text ≡ encode_utf8 c ++ rest → text_escaped text ≡ (take run text ++ escaped c) ++ text_escaped rest
front_escaped text rest run c v same split = grind (arith, char_escaped, append_assoc)

-- if nothing follows a run, the escaped text is the run
pub front_ended : (text : List ℕ) (run : ℕ) → text_escaped text ≡ take run text ++ text_escaped (drop run text) → length (drop run text) ≡ 0 → text_escaped text ≡ take run text ++ text_escaped []
front_ended text run same none = grind (arith, nil_from_length)

-- if a front of the text has been written, up to `rest`, and then a front of `rest`, up to `left`, a front of the text
-- has been written up to `left`
pub front-more : {a b c : Option (List ℕ)} {text rest left : List ℕ} → WritesFront a b text rest → WritesFront b c rest left → WritesFront a c text left
front-more {a} {b} {c} {text} {rest} {left} s t = grind (arith, Appends-trans, append_assoc)

-- if a front of the text has been written, and no rest is left, the whole escaped text has been written
pub front-end : {a b : Option (List ℕ)} {text rest : List ℕ} → WritesFront a b text rest → length rest ≡ 0 → Appends a b (text_escaped text)
front-end {a} {b} {text} {rest} s none = grind (arith, nil_from_length, chars-nil, append-nil)

-- if `bytes` are UTF-8, and the member's name, the escaped bytes and the last quote were written one after another, the
-- member `text` of JSON was written; r is the result of the last write
pub quoted : {A E : Type 0} (r : Result A E) (a b c d : Option (List ℕ)) (bytes text : List ℕ) → IsUtf8 bytes → text ≡ bytes → Appends a b (codes ",\"text\":\"") → Appends b c (text_escaped text) → OnOk r (Appends c d (codes "\"")) → OnOk r (Appends a d (json_text bytes))
quoted (Ok v) a b c d bytes text u is first second third =
    let escaped = subst (λ (t : List ℕ). Appends b c (text_escaped t)) is second in
    rw (eq-eqb _ _ (utf8_valid_len-IsUtf8 bytes u)) (Appends-trans a b d (codes ",\"text\":\"") (text_escaped bytes ++ codes "\"") first (Appends-trans b c d (text_escaped bytes) (codes "\"") escaped third))
quoted (Err e) a b c d bytes text u is first second third = tt
