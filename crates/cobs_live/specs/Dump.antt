-- Bytes, sixteen per line, in the columns of `hexdump -C`: the offset of the first byte, the bytes as digits, and the
-- bytes as characters.
use Rattle.std.specs.Prelude.{ℕ, zero, suc, ◌+◌, ◌*◌, ◌/◌, ◌^◌, ◌-◌, ◌&&◌, nat_le, nat_lt, false, List, [], ◌∷◌, ◌++◌, length, take, drop, map, slice_index, codes, if◌then◌else◌}
use Rattle.std.specs.Fmt.{digits, padded_integral, format_spec}
use Rattle.hex.specs.Hex.{encode_lower}

-- the texts of f for the numbers 0 to n - 1, one after the other
unfoldable pub upto : (ℕ → List ℕ) → ℕ → List ℕ
upto f zero = []
upto f (suc n) = upto f n ++ f n

-- an offset, as eight hexadecimal digits or more
abbrev pub offset_text : ℕ → List ℕ
offset_text offset = padded_integral (format_spec 32 0 4 8 (2 ^ 64 - 1)) false [] (digits 16 false offset)

-- the digits of a row's byte, or spaces if there is no byte
abbrev pub cell : List ℕ → ℕ → List ℕ
cell row i = if nat_lt i (length row) then encode_lower (slice_index row i ∷ []) ++ codes " " else codes "   "

-- the character that is shown for a byte: the byte itself if it is a visible ASCII character or a space, otherwise a
-- dot (46)
abbrev pub character : ℕ → ℕ
character byte = if nat_le 32 byte && nat_le byte 126 then byte else 46

-- the line of a row of up to sixteen bytes, the first of which is at this offset
abbrev pub dump_row : ℕ → List ℕ → List ℕ
dump_row offset row = offset_text offset ++ codes "  " ++ upto (λ i. cell row (0 + i)) 8 ++ codes " " ++ upto (λ i. cell row (8 + i)) 8 ++ codes " |" ++ map character row ++ codes "|\n"

-- the line of the row with this number, counted from 0
abbrev pub numbered_row : List ℕ → ℕ → List ℕ
numbered_row bytes number = dump_row (16 * number) (take 16 (drop (16 * number) bytes))

-- the lines of all bytes
abbrev pub dump : List ℕ → List ℕ
dump bytes = upto (numbered_row bytes) ((length bytes + 15) / 16)
