-- Lemmas on the text of bytes that are printed as hexadecimal digits with spaces between them. The text that `{:02x}`
-- writes for a byte is `hex_of` (`hex_of_is`). The first byte adds its digits to the text (`words_of-first`), and each
-- later byte adds a space and its digits (`words_of-next`).
use Rattle.std.proofs.Common.{◌≡◌, ◌+◌, ◌/◌, ◌%◌, ◌<◌, ◌≤◌, ◌^◌, ◌-◌, ℕ, zero, suc, Bool, true, false, ◌&&◌, eqb, List, [], ◌∷◌, ◌++◌, map, length, take, get_or, slice_index, length-take, refl, ap, sym, ◌∙◌, append_assoc, arith}
use Rattle.std.proofs.lemmas.Bool.Decides.{Decides-below_and, Decides-eqb}
use Rattle.std.proofs.lemmas.Fmt.{hex_byte}
use Rattle.std.proofs.lemmas.List.{take_more, map-append, length-map}
use Rattle.std.specs.Fmt.{digit_glyph, digits, padded_integral, format_spec}
use Rattle.std.specs.List.{join_with_byte}
use Rattle.hex.specs.Hex.{encode_with, lower_digits}
use Rattle.cobs_tool.specs.Text.{hex_of}

-- THE DIGITS that formatting writes are those of the table `lower_digits`

-- whether, for each number below n, the digit that formatting writes is the digit of the table
all_in_table : ℕ → Bool
all_in_table zero = true
all_in_table (suc n) = eqb (digit_glyph false n) (slice_index lower_digits n) && all_in_table n

-- for each number below 16, the digit that formatting writes is the digit of the table; `all_in_table` is computed for
-- 16
digit_glyph_is : (d : ℕ) → d < 16 → digit_glyph false d ≡ slice_index lower_digits d
unfolding all_in_table
digit_glyph_is d below = (Decides-below_and (λ k. eqb (digit_glyph false k) (slice_index lower_digits k)) (λ k. digit_glyph false k ≡ slice_index lower_digits k) all_in_table (λ k. Decides-eqb _ _) refl (λ _. refl) 16).0 refl d below

-- the text that formatting with `{:02x}` writes for a byte is `hex_of` of this byte
pub hex_of_is : (byte : ℕ) → byte < 256
    → padded_integral (format_spec 32 0 4 2 (2 ^ 64 - 1)) false [] (digits 16 false byte) ≡ hex_of byte
unfolding encode_with
hex_of_is byte small =
    hex_byte false byte small ∙ rw (digit_glyph_is (byte / 16) (omega arith), digit_glyph_is (byte % 16) (omega arith)) refl

-- some texts (`pieces`), joined with the byte c between each two of them: with one text more, the result is the joined
-- texts, then c, then the last text
join_with_byte-push : (c : ℕ) (pieces : List (List ℕ)) (last : List ℕ) → 0 < length pieces
    → join_with_byte c (pieces ++ last ∷ []) ≡ join_with_byte c pieces ++ (c ∷ last)
join_with_byte-push c [] last some = absurd (omega arith)
join_with_byte-push c (x ∷ []) last some = refl
join_with_byte-push c (x ∷ y ∷ pieces) last some =
    ap (λ l. x ++ (c ∷ l)) (join_with_byte-push c (y ∷ pieces) last (omega arith)) ∙ sym (append_assoc x (c ∷ join_with_byte c (y ∷ pieces)) (c ∷ last))

-- the digits of the first `at` bytes, with a space (32) between each two of them
abbrev pub words_of : List ℕ → ℕ → List ℕ
words_of bytes at = join_with_byte 32 (map hex_of (take at bytes))

-- the first byte of a line adds only its digits
pub words_of-first : (bytes : List ℕ) (at : ℕ) (old new : List ℕ) → at ≤ 0 → at < length bytes → old ≡ words_of bytes at
    → new ≡ old ++ hex_of (get_or bytes at 0) → new ≡ words_of bytes (at + 1)
words_of-first [] at old new first within before e = absurd (omega arith)
words_of-first (byte ∷ bytes) at old new first within before e =
    let none : at ≡ 0 = omega arith in
    e ∙ ap (λ l. l ++ hex_of (get_or (byte ∷ bytes) at 0)) before ∙ rw none refl

-- each later byte of a line adds a space (32) and its digits
pub words_of-next : (bytes : List ℕ) (at : ℕ) (old mid new : List ℕ) → 0 < at → at < length bytes → old ≡ words_of bytes at
    → mid ≡ old ++ 32 ∷ [] → new ≡ mid ++ hex_of (get_or bytes at 0) → new ≡ words_of bytes (at + 1)
words_of-next bytes at old mid new further within before space e =
    -- the digits of each earlier byte, of which there is at least one (`some`), and the digits of this byte (`last`)
    let pieces = map hex_of (take at bytes) in
    let last = hex_of (get_or bytes at 0) in
    let some : 0 < length pieces = omega (arith, length-map (take at bytes) hex_of, length-take at bytes) in
    e ∙ ap (λ l. l ++ last) (space ∙ ap (λ l. l ++ 32 ∷ []) before) ∙ append_assoc (words_of bytes at) (32 ∷ []) last
    ∙ sym (join_with_byte-push 32 pieces last some)
    ∙ sym (ap (join_with_byte 32) (map-append hex_of (take at bytes) (get_or bytes at 0 ∷ [])))
    ∙ sym (ap (λ l. join_with_byte 32 (map hex_of l)) (take_more bytes at 0 within))
