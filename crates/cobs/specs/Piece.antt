-- A piece consists of the bytes between two neighbouring zeros of a stream, before its first zero, or after its last
-- zero; there is at least one byte. A piece is cut into parts. Each part is a block, except that the last part may be
-- the front of a block.
use Rattle.std.specs.Prelude.{ℕ, zero, suc, ◌-◌, ◌==◌, Bool, false, List, [], ◌∷◌, length, take, if◌then◌else◌, IsTrue}
use Rattle.cobs.specs.Grammar.{code_of, bytes_of, message_of, last_of}

-- the parts of a list without its first n bytes. The first byte of a part is its code. A part has as many bytes as its
-- code says, or all remaining bytes if there are fewer. To find the next part, the definition skips the `code - 1`
-- bytes after the code.
unfoldable pub parts_after : ℕ → List ℕ → List (List ℕ)
parts_after n [] = []
parts_after (suc n) (byte ∷ bytes) = parts_after n bytes
parts_after zero (code ∷ bytes) = (code ∷ take (code - 1) bytes) ∷ parts_after (code - 1) bytes

-- the parts of a piece, in order
unfoldable pub parts : List ℕ → List (List ℕ)
parts p = parts_after 0 p

-- the last part of a piece, or the empty list if there is no part
unfoldable pub last_part : List ℕ → List ℕ
last_part p = last_of (parts p)

-- how many bytes of a part are missing: the code of the part minus the part's length
abbrev pub missing : List ℕ → ℕ
missing part = code_of part - length part

-- whether a piece is whole: it isn't empty, and no byte of its last part is missing
unfoldable pub is_whole : List ℕ → Bool
is_whole [] = false
is_whole (byte ∷ bytes) = missing (last_part (byte ∷ bytes)) == 0

-- the piece is whole
abbrev pub IsWhole : List ℕ → Type 0
IsWhole p = IsTrue (is_whole p)

-- the output of a piece: the message that the parts of the piece would stand for if they were blocks
unfoldable pub output : List ℕ → List ℕ
output p = message_of (parts p)

-- the output of a piece, without the bytes of its last part if this part isn't complete; the zero before this part
-- stays
unfoldable pub kept_output : List ℕ → List ℕ
kept_output p = if is_whole p then output p else take (length (output p) - length (bytes_of (last_part p))) (output p)
