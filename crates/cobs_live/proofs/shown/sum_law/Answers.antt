-- A checksum has as many bytes as its parameters say (`length-sum`). So if the checksum of a message is appended to the
-- message, the bytes before the checksum are the message (`body-back`), and the checksum is right (`checked-back`).
use Rattle.std.proofs.Common.{◌≡◌, ℕ, Bool, true, false, List, ◌++◌, length, reverse, refl, sym, ap, arith, length-append, length-take-le, Some}
use Rattle.std.proofs.lemmas.List.{length-reverse, take_all, take-append-le}
use Rattle.std.proofs.lemmas.Bool.Decides.{Decides-eqb}
use Rattle.std.proofs.lemmas.Slice.Eq.{ends_is}
use Rattle.std.specs.Prelude.{if◌then◌else◌}
use Rattle.cobs_live.specs.Checksum.{body_of, is_checked, sum_of, with_sum}
use Rattle.cobs_live.specs.declared.checksum.Checksum.{Checksum}
use Rattle.cobs_live.proofs.shown.sum_law.Goals as goal

-- the order of the bytes doesn't change their number
ordered : (little : Bool) (bytes : List ℕ) → length (if little then bytes else reverse bytes) ≡ length bytes
ordered true bytes = refl
ordered false bytes = length-reverse bytes

-- a checksum has as many bytes as its parameters say
length-sum : (c : Checksum) (message : List ℕ) → length (sum_of c message) ≡ c.params.size
length-sum c message = grind (arith, ordered, length-take-le)

-- a message with its checksum, without the last bytes (as many as a checksum has), is the message
body-back : (c : Checksum) (message : List ℕ) → body_of c (with_sum (Some c) message) ≡ message
body-back c message = grind (arith, length-append, length-sum, take-append-le, take_all)

-- a message with its checksum ends with the checksum of the bytes before it
checked-back : (c : Checksum) (message : List ℕ) → is_checked c (with_sum (Some c) message) ≡ true
checked-back c message =
    (ends_is Decides-eqb (message ++ sum_of c message) (sum_of c (body_of c (message ++ sum_of c message))) _ refl).1 message
    (ap (λ (m : List ℕ). message ++ sum_of c m) (sym (body-back c message)))

pub returns : goal.returns
returns _ = grind (arith, checked-back, body-back)
