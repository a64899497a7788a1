-- The definitions with which contracts describe a `CobsEncoder` and an `UnbufferedEncoder`.
use Rattle.std.specs.Prelude.{◌≡◌, ℕ, List}
use Rattle.std.specs.Borrow.{MutBor}
use Rattle.cobs.specs.declared.enc.encoder.CobsEncoder.{CobsEncoder}
use Rattle.cobs.specs.OpenBlock.{Reached, CobsEncoderAfter}
pub use Rattle.cobs.specs.OpenBlock.{IsPlaceIn}
pub use Rattle.cobs.specs.Fields.Progress.{reached_by}

-- the bytes of the slice to which a `CobsEncoder` writes
abbrev pub slice_of : CobsEncoder → List ℕ
slice_of encoder = encoder.dest.now

-- the progress of a `CobsEncoder`: how much of the frame is in the slice
abbrev pub slice_reached : CobsEncoder → Reached
slice_reached encoder = reached_by encoder.encoder

-- the bytes pushed to the encoder so far are the message m
abbrev pub HasTaken : CobsEncoder → List ℕ → Type 0
HasTaken encoder m = CobsEncoderAfter (slice_of encoder) (slice_reached encoder) m

-- the encoder writes to this slice, which the caller lends to the encoder
abbrev pub WritesTo : CobsEncoder → MutBor (List ℕ) → Type 0
WritesTo encoder slice = encoder.dest.ghost_name ≡ slice.ghost_name

-- the two encoders write to the same slice of the caller
abbrev pub IsOverSameSlice : CobsEncoder → CobsEncoder → Type 0
IsOverSameSlice old new = new.dest.ghost_name ≡ old.dest.ghost_name

-- neither the bytes of the slice nor the progress of the encoder has changed
abbrev pub IsUnchanged : CobsEncoder → CobsEncoder → Type 0
IsUnchanged old new = (slice_of new ≡ slice_of old) × (slice_reached new ≡ slice_reached old)
