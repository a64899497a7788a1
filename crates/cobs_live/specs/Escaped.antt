-- Text as it is written in a string of JSON.
use Rattle.std.specs.Prelude.{ℕ, ◌≡◌, Option, ◌+◌, ◌-◌, ◌/◌, ◌%◌, ◌==◌, ◌&&◌, ◌||◌, not, nat_le, nat_lt, Bool, List, [], ◌∷◌, ◌++◌, codes, if◌then◌else◌}
use Rattle.std.specs.Char.{encode_utf8}
use Rattle.std.specs.Io.KnownBytes.{Appends}
use Rattle.std.specs.List.{flat_map}
use Rattle.std.specs.Str.{chars}
use Rattle.hex.specs.Hex.{encode_lower}
use Rattle.unicode.specs.GeneralCategory.{general_category, general_category_number}

-- whether a character is of the category Control (25), Format (26), LineSeparator (23) or ParagraphSeparator (24)
abbrev pub is_unseen : ℕ → Bool
is_unseen c = (general_category_number (general_category c) == 25) || ((general_category_number (general_category c) == 26) || ((general_category_number (general_category c) == 23) || (general_category_number (general_category c) == 24)))

-- whether a character is hidden: it is a control character, or one of the characters that `is_unseen` lists. Below 127,
-- only the control characters, which are below 32, are hidden.
abbrev pub is_hidden : ℕ → Bool
is_hidden c = if nat_lt c 127 then nat_lt c 32 else is_unseen c

-- whether a byte is an ASCII character that needs no escape in a string of JSON: no control character, no quote and no
-- backslash
abbrev pub is_plain_byte : ℕ → Bool
is_plain_byte byte = nat_le 32 byte && (nat_lt byte 127 && (not (byte == 34) && not (byte == 92)))

-- the escape of a code of 16 bits
abbrev pub unit_escape : ℕ → List ℕ
unit_escape unit = codes "\\u" ++ encode_lower (unit / 256 ∷ unit % 256 ∷ [])

-- the escape of a character: the escape of its code, or the escapes of two surrogates if the code has more than 16 bits
abbrev pub char_escape : ℕ → List ℕ
char_escape c = if nat_lt c 65536 then unit_escape c else unit_escape (0xD800 + (c - 65536) / 1024 % 1024) ++ unit_escape (0xDC00 + c % 1024)

-- a character as it is written in a string of JSON
abbrev pub escaped : ℕ → List ℕ
escaped c = if is_hidden c then char_escape c else (if (c == 34) || (c == 92) then 92 ∷ c ∷ [] else encode_utf8 c)

-- a text as it is written in a string of JSON
abbrev pub text_escaped : List ℕ → List ℕ
text_escaped bytes = flat_map escaped (chars bytes)

-- the front of a text has been written, and `rest` remains to be written
pub record WritesFront (before after : Option (List ℕ)) (text rest : List ℕ) : Type 0 where
  pub done : List ℕ
  pub written : Appends before after done
  pub is : text_escaped text ≡ done ++ text_escaped rest
