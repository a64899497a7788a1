-- The remaining characters are UTF-8, and so is the message. No character so far was hidden: a character of the message
-- is hidden if and only if one of the remaining characters is.
use Rattle.std.proofs.Common.{◌≡◌, not}
use Rattle.std.specs.List.{list_all}
use Rattle.std.specs.Str.{IsUtf8, chars}
use Rattle.std.specs.Str.Iter.{chars_rest}
use Rattle.cobs_live.specs.Escaped.{is_hidden}
use Rattle.cobs_live.proofs.line.plain_text.Given as goal

abbrev pub invariant-loop-c : goal.invariant-loop-c
invariant-loop-c l = IsUtf8 (chars_rest l.c-iterator) × IsUtf8 l.fn.message × (list_all (λ c. not (is_hidden c)) (chars (chars_rest l.c-iterator)) ≡ list_all (λ c. not (is_hidden c)) (chars l.fn.message))
