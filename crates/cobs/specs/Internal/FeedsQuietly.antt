-- Several bytes are fed to an `UnbufferedDecoder`, and none of them ends a piece or overflows the buffer. The proofs
-- say that such bytes are *fed quietly*.
use Rattle.std.specs.Prelude.{◌≡◌, List, [], ◌∷◌, ℕ, length, Ok, None}
use Rattle.cobs.specs.Feed.{Phase}
use Rattle.cobs.specs.Step.{next_result, next_buffer, next_phase}

-- the bytes are fed one after another, `feed` returns `Ok(None)` for each of them, and they change buffer and phase to
-- `buffer'` and `phase'`
abbrev pub FeedsQuietly : List ℕ → Phase → List ℕ → List ℕ → Phase → Type 0
FeedsQuietly buffer phase [] buffer' phase' = (buffer' ≡ buffer) × (phase' ≡ phase)
FeedsQuietly buffer phase (byte ∷ bytes) buffer' phase' =
    (next_result (length buffer) phase byte ≡ Ok None) × FeedsQuietly (next_buffer buffer phase byte) (next_phase (length buffer) phase byte) bytes buffer' phase'
