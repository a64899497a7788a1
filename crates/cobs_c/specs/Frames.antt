-- Frames as they are sent.
use Rattle.std.specs.Prelude.{◌≡◌, ℕ, List, [], ◌∷◌, ◌++◌}
use Rattle.cobs.specs.Grammar.{HasNoZero, IsEncodedFrame}
use Rattle.cobs.specs.Sentinel.{IsEncodedFrameFor, IsFreeOf}

-- the frame that encoders write for m; the frame has no zero
abbrev pub IsFrameOnWire : List ℕ → List ℕ → Type 0
IsFrameOnWire f m = IsEncodedFrame f m × HasNoZero f

-- the frame that encoders write for m and the sentinel s; the frame has no byte s
abbrev pub IsFrameOnWireFor : ℕ → List ℕ → List ℕ → Type 0
IsFrameOnWireFor s f m = IsEncodedFrameFor s f m × IsFreeOf s f

-- the bytes are the frame for m and s, followed by the sentinel s
abbrev pub IsTerminatedFrame : ℕ → List ℕ → List ℕ → Type 0
IsTerminatedFrame s bytes m = (f : List ℕ) × IsFrameOnWireFor s f m × (bytes ≡ f ++ s ∷ [])
