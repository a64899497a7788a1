-- A text that is composed before it is written.
use Rattle.std.specs.Prelude.{ℕ, List, take, Option, Some}
use Rattle.std.specs.Io.KnownBytes.{append_known}
use Rattle.cobs_live.specs.declared.composed.Composed.{Composed}

-- the composed text, as the contents of a writer
unfoldable pub contents_of : Composed → Option (List ℕ)
contents_of text = Some (take text.len text.bytes)

-- the contents of a writer after the composed text was written to it
abbrev pub with_text : Option (List ℕ) → Composed → Option (List ℕ)
with_text held text = append_known held (take text.len text.bytes)
