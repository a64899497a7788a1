-- Lemmas on the rows of a dump, which has sixteen bytes per row: `upto` of no texts and of one text more, and the bytes
-- of a row.
use Rattle.std.proofs.Common.{◌≡◌, ◌+◌, ◌-◌, ℕ, add-one, List, [], ◌++◌, length, take, drop, min, refl, arith, length-drop, take_all}
use Rattle.std.proofs.lemmas.Bool.{cases_lt}
use Rattle.cobs_live.specs.Dump.{upto}

-- for no numbers, the text is empty
pub upto-none : (f : ℕ → List ℕ) → upto f 0 ≡ []
unfolding upto
upto-none f = refl

-- for one number more, one text more follows
pub upto-more : (f : ℕ → List ℕ) (n : ℕ) → upto f (n + 1) ≡ upto f n ++ f n
unfolding upto
upto-more f n = rw add-one refl

-- the range that `write_dump` slices, from `start` up to sixteen bytes later or up to the end, is the first sixteen
-- bytes from `start` on, or all of them if there are fewer
pub row_of : (bytes : List ℕ) (start end : ℕ) → end ≡ min (length bytes) (start + 16) → take (end - start) (drop start bytes) ≡ take 16 (drop start bytes)
row_of bytes start end e = grind (arith, cases_lt, take_all, length-drop)
