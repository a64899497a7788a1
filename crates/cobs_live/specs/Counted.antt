-- Counts of the pieces and bytes of a stream.
use Rattle.std.specs.Prelude.{ℕ, ◌≡◌, ◌-◌, ◌^◌, ◌==◌, min, Bool, List, length, filter, Option, is_some}
use Rattle.cobs.specs.Stream.{Outcome}
use Rattle.cobs_live.specs.Seen.{seen_of}
use Rattle.cobs_live.specs.declared.checksum.Checksum.{Checksum}
use Rattle.cobs_live.specs.declared.seen.Kind.{Kind}
use Rattle.cobs_live.specs.declared.seen.Kind.TheVariants.{Message, Broken, TooLong, BadCrc}
use Rattle.cobs_live.specs.declared.tally.Tally.{Tally}

-- a number for each kind, by which kinds are compared
abbrev pub kind_number : Kind → ℕ
kind_number Message = 0
kind_number Broken = 1
kind_number TooLong = 2
kind_number BadCrc = 3

-- whether an outcome is seen as a piece of this kind
abbrev pub is_of_kind : Option Checksum → Kind → Outcome → Bool
is_of_kind checksum kind outcome = kind_number (seen_of checksum outcome).kind == kind_number kind

-- a count, which stops at the greatest `u64`
abbrev pub counted : ℕ → ℕ
counted n = min n (2 ^ 64 - 1)

-- how many of some outcomes are seen as pieces of this kind
abbrev pub count_of : Option Checksum → Kind → List Outcome → ℕ
count_of checksum kind outcomes = counted (length (filter (is_of_kind checksum kind) outcomes))

-- the tally has the counts for these outcomes and for `read` bytes; if there is a checksum, messages should end with it
pub record IsTallyOf (checksum : Option Checksum) (tally : Tally) (outcomes : List Outcome) (read : ℕ) : Type 0 where
  pub messages : tally.messages ≡ count_of checksum Message outcomes
  pub broken : tally.broken ≡ count_of checksum Broken outcomes
  pub too_long : tally.too_long ≡ count_of checksum TooLong outcomes
  pub bad_crc : tally.bad_crc ≡ count_of checksum BadCrc outcomes
  pub checked : tally.checked ≡ is_some checksum
  pub bytes : tally.bytes ≡ counted read
  pub pieces : tally.pieces ≡ counted (length outcomes)
