-- How to count the length of a frame, block by block: the clauses are lemmas of `LengthLemmas`, except `same`, which is
-- `same_start`.
use Rattle.std.proofs.Common.{arith}
use Rattle.cobs.proofs.format.LengthLemmas.{encoded_len-full, encoded_len-short, encoded_len-zero}
use Rattle.cobs.proofs.encoding.OpenLenLemmas.{same_start}
use Rattle.cobs.proofs.laws.coders.law_15.Goals as goal

pub returns : goal.returns
returns c = grind (arith, encoded_len-short, encoded_len-zero, encoded_len-full, same_start)
