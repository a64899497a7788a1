-- The number that a `Recorder` records: how many bytes had been written when its last read began.
use Rattle.std.specs.Prelude.{ℕ, ◌≡◌, ◌⊎◌, List, length, Option, Some, None}

-- how many bytes had been written to an output in memory
abbrev pub len_of : Option (List ℕ) → ℕ
len_of (Some bytes) = length bytes
len_of None = 0

-- either nothing was read; or, at the last read, the text written so far had `len` bytes, and was right for the results
-- of the earlier reads
abbrev pub IsRightAtLast : {S A : Type 0} → S → S → ℕ → (List (List A) → Option (List ℕ) → Type 0) → Type 0
IsRightAtLast {A = A} from to len IsRight = (to ≡ from) ⊎ ((gone : List (List A)) × (held : Option (List ℕ)) × IsRight gone held × (len ≡ len_of held))
