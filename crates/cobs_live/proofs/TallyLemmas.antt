-- Lemmas on the text of a tally, for `fmt`: `with_flag` is this text for one value of the field `checked`, with the
-- parentheses that the contract of `write!` has.
use Rattle.std.proofs.Common.{◌≡◌, Bool, ℕ, List, [], ◌++◌, append_assoc, codes, ap, ◌∙◌}
use Rattle.std.specs.Prelude.{if◌then◌else◌}
use Rattle.std.specs.Fmt.{decimal}
use Rattle.cobs_live.specs.Shown.{tally_text}
use Rattle.cobs_live.specs.declared.tally.Tally.{Tally}

-- nine texts that were appended one after another, with the parentheses of `with_flag`
regroup : (a b c d e f g h i : List ℕ) → (((((((a ++ b) ++ c) ++ d) ++ e) ++ f) ++ g) ++ h) ++ i ≡ a ++ (b ++ (c ++ (d ++ (e ++ (f ++ (g ++ (h ++ i)))))))
regroup a b c d e f g h i = simp append_assoc

module _ (tally : Tally) where
  -- the text of a tally whose field `checked` has this value
  abbrev pub with_flag : Bool → List ℕ
  with_flag checked =
      codes "messages " ++ (decimal tally.messages ++ (codes ", broken " ++ (decimal tally.broken ++ (codes ", too long " ++ (decimal tally.too_long ++ ((if checked then codes ", bad crc " ++ decimal tally.bad_crc else []) ++ (codes ", bytes " ++ decimal tally.bytes)))))))

  -- if `checked` has this value, `with_flag` is the text of the tally
  pub text-flag : (checked : Bool) → tally.checked ≡ checked → tally_text tally ≡ with_flag checked
  text-flag checked e =
      regroup (codes "messages ") (decimal tally.messages) (codes ", broken ") (decimal tally.broken) (codes ", too long ") (decimal tally.too_long) (if tally.checked then codes ", bad crc " ++ decimal tally.bad_crc else []) (codes ", bytes ") (decimal tally.bytes)
      ∙ ap with_flag e
