-- The words after the program's name.
use Rattle.std.specs.Prelude.{ℕ, List, map, String, string_bytes}
use Rattle.std.specs.Global.{Global}

-- the text of each word, in order
abbrev pub texts : List (String Global) → List (List ℕ)
texts words = map string_bytes words
