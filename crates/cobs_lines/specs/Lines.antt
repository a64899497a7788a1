-- The line of each outcome.
use Rattle.std.specs.Prelude.{ℕ, List, [], ◌∷◌, ◌++◌, length, codes}
use Rattle.std.specs.Fmt.{decimal}
use Rattle.hex.specs.Hex.{encode_lower}
use Rattle.cobs.specs.Stream.{Outcome, Message, Broken, TooLong}

-- a space and a message's bytes as hexadecimal digits, or nothing for the empty message
abbrev pub spaced_digits : List ℕ → List ℕ
spaced_digits [] = []
spaced_digits (byte ∷ bytes) = codes " " ++ encode_lower (byte ∷ bytes)

-- the line of an outcome
abbrev pub outcome_line : Outcome → List ℕ
outcome_line (Message message) = codes "message " ++ decimal (length message) ++ spaced_digits message ++ codes "\n"
outcome_line (Broken count) = codes "broken " ++ decimal count ++ codes "\n"
outcome_line TooLong = codes "too long\n"
