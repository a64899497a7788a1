-- Frames for a sentinel other than 0, and frames between two sentinels.
use Rattle.std.specs.Prelude.{◌≡◌, ◌≢◌, ◌-◌, ℕ, List, [], ◌∷◌, ◌++◌, length, All}
use Rattle.std.specs.List.{slice_range}
use Rattle.cobs.specs.Grammar.{IsEncodedFrame}
-- `xor_each s`: a list with each byte XORed with s. It turns a frame for the sentinel 0 into a frame for the sentinel
-- s, and a frame for s into a frame for 0.
pub use Rattle.cobs.specs.Bytes.{xor_each}

-- no byte of the list is the sentinel s
abbrev pub IsFreeOf : ℕ → List ℕ → Type 0
IsFreeOf s bytes = All (λ byte. byte ≢ s) bytes

-- f is the frame that encoders write for the message m and the sentinel s
abbrev pub IsEncodedFrameFor : ℕ → List ℕ → List ℕ → Type 0
IsEncodedFrameFor s f m = IsEncodedFrame (xor_each s f) m

-- the bytes are a 0, the frame that encoders write for the message m, and another 0
abbrev pub IsDelimitedFrame : List ℕ → List ℕ → Type 0
IsDelimitedFrame bytes m = (f : List ℕ) × IsEncodedFrame f m × (bytes ≡ 0 ∷ f ++ 0 ∷ [])

-- the bytes of a list without its first byte and its last byte
abbrev pub between_ends : List ℕ → List ℕ
between_ends bytes = slice_range bytes 1 (length bytes - 1)
