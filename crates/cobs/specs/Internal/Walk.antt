-- The bytes after the front of a block, read from each code to the next code.
use Rattle.std.specs.Prelude.{List, [], ◌∷◌, ℕ, zero, suc, ◌-◌}

-- The given bytes follow the front of a block that has this code, and of which n bytes are missing. `walked` has three
-- parts: the bytes with a zero in place of each code, the last code, and how many bytes of the last code's block are
-- missing after the bytes. If no code is among the bytes, the last code is the code of the given block.
abbrev pub walked : ℕ → ℕ → List ℕ → List ℕ × ℕ × ℕ
walked code n [] = ([], code, n)
walked code (suc n) (byte ∷ bytes) = let w = walked code n bytes in (byte ∷ w.0, w.1, w.2)
walked code zero (next ∷ bytes) = let w = walked next (next - 1) bytes in (0 ∷ w.0, w.1, w.2)
