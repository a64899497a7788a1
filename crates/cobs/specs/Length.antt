-- The lengths of frames.
use Rattle.std.specs.Prelude.{◌≡◌, ◌<◌, ◌%◌, ℕ, ◌+◌, ◌-◌, ◌/◌, List, [], ◌∷◌, ◌++◌, length, map, max, replicate}
use Rattle.cobs.specs.Stream.{stretches}

-- the lengths of the runs of a message, empty runs included. A run consists of the nonzero bytes before the first zero,
-- between two neighbouring zeros, or after the last zero; a message without a zero is one run.
abbrev pub runs : List ℕ → List ℕ
runs m = map length (stretches m)

-- the number of blocks of a message's encoded frame, minus the number of runs of the message. The argument lists the
-- lengths of the runs. A run of L bytes adds L / 254, rounded down. The last run adds only (L - 1) / 254, because a
-- full block at the end of a frame needs no block after it.
abbrev pub full_blocks : List ℕ → ℕ
full_blocks [] = 0
full_blocks (run ∷ []) = (run - 1) / 254
full_blocks (run ∷ next ∷ more) = run / 254 + full_blocks (next ∷ more)

-- the length of a message's encoded frame
abbrev pub encoded_len : List ℕ → ℕ
encoded_len m = length m + 1 + full_blocks (runs m)

-- the length of an encoded frame from its open block to its end, after these bytes are appended to the message. The
-- open block has this code, so it already has code - 1 nonzero bytes. Only the number of these nonzero bytes matters,
-- so the definition uses ones in their place (clause `same` of `law_15`).
abbrev pub open_len : ℕ → List ℕ → ℕ
open_len code bytes = encoded_len (replicate (code - 1) 1 ++ bytes)

-- the greatest overhead of an encoded frame of a message of n bytes: n / 254 rounded up, or 1 for the empty message
abbrev pub max_overhead : ℕ → ℕ
max_overhead n = max 1 ((n + 253) / 254)

-- the length of the longest encoded frame of a message of n bytes
abbrev pub max_encoded_len : ℕ → ℕ
max_encoded_len n = n + max_overhead n

-- the last number of a list, or 0 if the list is empty
abbrev pub last_number : List ℕ → ℕ
last_number [] = 0
last_number (n ∷ []) = n
last_number (n ∷ next ∷ more) = last_number (next ∷ more)

-- the length of a message's last run
abbrev pub last_run : List ℕ → ℕ
last_run m = last_number (runs m)

-- the last run of the message has a positive length that is divisible by 254
abbrev pub EndsInFullRun : List ℕ → Type 0
EndsInFullRun m = (0 < last_run m) × (last_run m % 254 ≡ 0)
