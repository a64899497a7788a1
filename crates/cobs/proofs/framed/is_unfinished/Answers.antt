-- A stream that isn't empty has unended bytes if and only if its last byte isn't a zero (`nonempty-unended_last`).
use Rattle.std.proofs.Common.{arith}
use Rattle.std.proofs.lemmas.List.{nil_from_length, append-nil}
use Rattle.cobs.proofs.format.StreamLemmas.{nonempty-unended_last, unended-no_zero}
use Rattle.cobs.proofs.framed.is_unfinished.Goals as goal

-- no bytes
pub returns-in-empty : goal.returns-in-empty
returns-in-empty c = grind (arith, nil_from_length, append-nil, unended-no_zero)

-- one or more bytes
pub returns-in-len1-up : goal.returns-in-len1-up
returns-in-len1-up c = grind (arith, nonempty-unended_last)
