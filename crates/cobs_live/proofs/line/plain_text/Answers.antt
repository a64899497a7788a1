-- No character so far is hidden, and the remaining bytes are UTF-8. If the next character is hidden, the message isn't
-- plain (`none_plain`). If no character is left, the message is plain (`is_plain_from`).
use Rattle.std.proofs.Common.{◌≡◌, ◌==◌, ℕ, List, Bool, true, false, not, IsUtf8, chars, length, refl, sym, ◌∙◌}
use Rattle.std.proofs.lemmas.Bool.{and_from, and_parts, eq-eqb, false≢true}
use Rattle.std.proofs.lemmas.Str.{IsUtf8-past_char, chars_past_char, utf8_valid_len-IsUtf8}
use Rattle.std.proofs.StrCases.{chars_of_empty}
use Rattle.std.specs.List.{list_all}
use Rattle.std.specs.Str.Lossy.{utf8_valid_len}
use Rattle.cobs_live.specs.Escaped.{is_hidden}
use Rattle.cobs_live.specs.Shown.{is_plain}
use Rattle.cobs_live.proofs.line.plain_text.Goals as goal

-- whether none of these characters is hidden
no_controls : List ℕ → Bool
no_controls cs = list_all (λ c. not (is_hidden c)) cs

-- if no character of the bytes is hidden, the bytes are plain text
is_plain_from : (bytes : List ℕ) → IsUtf8 bytes → no_controls (chars bytes) ≡ true → is_plain bytes ≡ true
unfolding no_controls
is_plain_from bytes u none = and_from (utf8_valid_len bytes == length bytes) _ (eq-eqb _ _ (utf8_valid_len-IsUtf8 bytes u)) none

-- if a character of the bytes is hidden, they aren't plain text
none_plain : (bytes : List ℕ) → no_controls (chars bytes) ≡ false → is_plain bytes ≡ true → false ≡ true
unfolding no_controls
none_plain bytes some plain = sym some ∙ (and_parts (utf8_valid_len bytes == length bytes) _ plain).1

-- a character is hidden, and the function returns false
pub returns-then-is_hidden-clause-plain : goal.returns-then-is_hidden-clause-plain
unfolding no_controls
returns-then-is_hidden-clause-plain c =
    -- the three facts of the invariant: the remaining bytes are UTF-8, the message is UTF-8, and no character so far is
    -- hidden
    let held = c.loop-c.invariant in
    let step = chars_past_char _ _ c.in-Some.c held.0 c.in-Some.ensures.steps.0 in
    let is = sym c.is_hidden.ensures.hidden ∙ c.if-is_hidden.true in
    (λ e. absurd (false≢true e), none_plain _ (sym (rw (step, is) at held.2)))

-- the next character isn't hidden
pub loop-c-preserved : goal.loop-c-preserved
loop-c-preserved c =
    -- the three facts of the invariant: the remaining bytes are UTF-8, the message is UTF-8, and no character so far is
    -- hidden
    let held = c.loop-c.invariant in
    let parts = c.in-Some.ensures.steps.0 in
    let is = sym c.is_hidden.ensures.hidden ∙ c.if-is_hidden.false in
    (IsUtf8-past_char _ _ c.in-Some.c held.0 parts, held.1, rw (chars_past_char _ _ c.in-Some.c held.0 parts, is) at held.2)

-- no character is left, and the function returns true
pub returns-clause-plain : goal.returns-clause-plain
unfolding no_controls
returns-clause-plain c =
    -- the three facts of the invariant: the remaining bytes are UTF-8, the message is UTF-8, and no character so far is
    -- hidden
    let held = c.loop-c.invariant in
    (λ _. is_plain_from _ held.1 (sym (rw (chars_of_empty _ c.in-None.ensures.steps.0.0) at held.2)), λ _. refl)
