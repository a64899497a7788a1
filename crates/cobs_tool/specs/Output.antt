-- The bytes that the modes write.
use Rattle.std.specs.Prelude.{ℕ, ◌≡◌, List, [], ◌∷◌, ◌++◌, Option}
use Rattle.std.specs.Io.KnownBytes.{Appends}
use Rattle.cobs.specs.Grammar.{IsEncodedFrame}
use Rattle.cobs_tool.specs.Report.{report}
use Rattle.cobs_tool.specs.Text.{hex_line}
use Rattle.cobs_tool.specs.declared.mode.Mode.{Mode}
use Rattle.cobs_tool.specs.declared.mode.Mode.TheVariants.{Show, Encode, Decode}

-- some bytes, for which P holds, have been appended to the contents of a writer, if these contents are known
abbrev pub WritesSome : (List ℕ → Type 0) → Option (List ℕ) → Option (List ℕ) → Type 0
WritesSome P old new = (bytes : List ℕ) × P bytes × Appends old new bytes

-- the encoded frame of the message, and a zero after it
pub record IsTerminatedFrame (bytes message : List ℕ) : Type 0 where
  pub frame : List ℕ
  pub encoded : IsEncodedFrame frame message
  pub terminated : bytes ≡ frame ++ 0 ∷ []

-- the frame of the message and a zero after it, as hexadecimal digits
pub record IsShown (line message : List ℕ) : Type 0 where
  pub bytes : List ℕ
  pub frame : IsTerminatedFrame bytes message
  pub digits : line ≡ hex_line bytes

-- the bytes that a mode writes for an input
abbrev pub IsOutputOf : Mode → List ℕ → List ℕ → Type 0
IsOutputOf Show message line = IsShown line message
IsOutputOf Encode message bytes = IsTerminatedFrame bytes message
IsOutputOf Decode stream text = text ≡ report stream
