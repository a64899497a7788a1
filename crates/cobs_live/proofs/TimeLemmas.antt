-- Lemmas on the times of pieces. If pieces are read now, the times of the pieces up to a number stay, and all later
-- pieces have the time `now` (`extended`). This is still a timeline (`IsTimeline-extended`), and the text of the
-- earlier pieces is the same (`shown_from-extended`).
use Rattle.std.proofs.Common.{◌≡◌, ◌+◌, ◌≤◌, ◌<◌, ℕ, List, [], ◌∷◌, ◌++◌, length, refl, arith, length-append}
use Rattle.std.specs.Prelude.{nat_le, if◌then◌else◌}
use Rattle.std.proofs.lemmas.Bool.{le-leb}
use Rattle.std.proofs.lemmas.Bool.Decides.{leb_tells}
use Rattle.cobs.specs.Stream.{Outcome}
use Rattle.cobs_live.specs.Seen.{Ended}
use Rattle.cobs_live.specs.Shown.{shown_from}
use Rattle.cobs_live.specs.Timed.{IsReadAt, IsTimeline}
use Rattle.cobs_live.specs.declared.clock.Moment.{Moment}
use Rattle.cobs_live.specs.declared.clock.Times.{Times}
use Rattle.cobs_live.specs.declared.shown.View.{View}

-- the times of the pieces up to the number `known`, and the time `now` for all later pieces
abbrev pub extended : (ℕ → Moment) → ℕ → Moment → ℕ → Moment
extended times known now number = if nat_le number known then times number else now

-- `known` is the number of the last piece whose time is known
module _ (times : ℕ → Moment) (known : ℕ) (now : Moment) where
  -- the times up to the number `known` are as before
  pub early : (number : ℕ) → number ≤ known → extended times known now number ≡ times number
  early number h = grind (arith, le-leb)

  -- the times after the number `known` are `now`
  pub late : (number : ℕ) → known < number → extended times known now number ≡ now
  late number h = grind (arith, leb_tells)

  -- no time from the number `known` on is after `now`
  most : (number : ℕ) → known ≤ number → (times known).millis ≤ now.millis → (extended times known now number).millis ≤ now.millis
  most number from le = grind (arith, early, late, leb_tells)

  -- if `now` isn't before the time with the number `known`, the extended times are a timeline
  pub IsTimeline-extended : IsTimeline times → (times known).millis ≤ now.millis → IsTimeline (extended times known now)
  IsTimeline-extended line le = grind (arith, early, most, late, leb_tells)

  -- a clock whose last time is that of the number `known`, and whose next time is `now`, fits the extended times
  pub IsReadAt-extended : (clock : Times) → clock.last ≡ times known → clock.next ≡ now → IsReadAt (extended times known now) known clock
  IsReadAt-extended clock last is = grind (arith, early, late)

  -- the text of pieces up to the number `known` is the same with the extended times
  pub shown_from-extended : (view : View) (index : ℕ) (pieces : List Ended) → index + length pieces ≤ known → shown_from view (extended times known now) index pieces ≡ shown_from view times index pieces
  unfolding shown_from
  shown_from-extended view index [] h = refl
  shown_from-extended view index (piece ∷ pieces) h = grind (arith, early, (shown_from-extended view (index + 1) pieces (omega arith)))

-- if one more piece is read, and the clock's last time is now the time at which it was read, the clock fits the times
-- with this piece
pub IsReadAt-next : (times : ℕ → Moment) (gone : List Outcome) (outcome : Outcome) (clock clock' : Times) → IsReadAt times (length gone) clock → clock'.last ≡ clock.next → clock'.next ≡ clock.next → IsReadAt times (length (gone ++ outcome ∷ [])) clock'
IsReadAt-next times gone outcome clock clock' r last now = grind (arith, length-append)
