-- The effect of a step of the encoder that encodes the front of a source.
use Rattle.std.specs.Prelude.{◌≡◌, ℕ, List, ◌++◌, length, take, drop}
use Rattle.cobs.specs.OpenBlock.{Reached, CobsEncoderAfter, IsPlaceIn, end_after}

-- A step has encoded the first n bytes of a source, and has changed the slice and the progress of the frame to `slice'`
-- and `reached'`. After the whole source is encoded, the frame ends at the same index as before the step, and the bytes
-- of the slice after that index are as they were.
pub record TakesFront (slice : List ℕ) (reached : Reached) (source : List ℕ) (n : ℕ) (slice' : List ℕ) (reached' : Reached) : Type 0 where
  pub place : IsPlaceIn (length slice') reached'
  pub after : (m : List ℕ) → CobsEncoderAfter slice reached m → CobsEncoderAfter slice' reached' (m ++ take n source)
  pub end : end_after reached' (drop n source) ≡ end_after reached source
  pub rest : drop (end_after reached source) slice' ≡ drop (end_after reached source) slice
