-- Lemmas on the piece between two sentinels (`coded_piece`), and on the message at the front of a buffer
-- (`reads_front`, `held_front`).
use Rattle.std.proofs.Common.{◌≢◌, ◌≤◌, ℕ, List, [], ◌∷◌, length, take, refl, arith, length-take}
use Rattle.cobs.specs.Grammar.{HasNoZero, Reads}
use Rattle.cobs.specs.Headline.{BeginsWith, IsPiece}
use Rattle.cobs.specs.Sentinel.{xor_each}

-- if bytes that aren't empty have no zero after each of them is XORed with s, the XORed bytes are a piece
pub coded_piece : (s : ℕ) (bytes : List ℕ) → bytes ≢ [] → HasNoZero (xor_each s bytes) → IsPiece (xor_each s bytes)
coded_piece s [] some nonzero = absurd (some refl)
coded_piece s (byte ∷ bytes) some nonzero = grind arith

-- if f reads as the first n bytes of a buffer, and these bytes are the message m, f reads as m
pub reads_front : (f buffer m : List ℕ) (n : ℕ) → Reads f (take n buffer) → BeginsWith buffer n m → Reads f m
reads_front f buffer m n reads begins = grind arith

-- if the first n bytes of a buffer are the message m, m isn't longer than the buffer
pub held_front : (buffer m : List ℕ) (n : ℕ) → BeginsWith buffer n m → length m ≤ length buffer
held_front buffer m n begins = grind (arith, length-take)
