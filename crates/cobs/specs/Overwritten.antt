-- The bytes of a buffer after a call.
use Rattle.std.specs.Prelude.{ℕ, List, ◌+◌, ◌++◌, length, take, drop}

-- the buffer after these bytes, or as many of them as fit, are written to its front; its other bytes are as they were
abbrev pub overwritten : List ℕ → List ℕ → List ℕ
overwritten buffer bytes = take (length buffer) bytes ++ drop (length bytes) buffer

-- the buffer after these bytes are written to it from the index `at` on
abbrev pub written_at : List ℕ → ℕ → List ℕ → List ℕ
written_at buffer at bytes = take at buffer ++ bytes ++ drop (at + length bytes) buffer

-- the message of n bytes that begins at index `start` of a buffer that is passed to `encode_in_place`
abbrev pub message_in : ℕ → ℕ → List ℕ → List ℕ
message_in start n buffer = take n (drop start buffer)
