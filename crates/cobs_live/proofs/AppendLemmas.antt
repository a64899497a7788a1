-- A lemma on texts that are written one after another, if the last write may fail.
use Rattle.std.proofs.Common.{ℕ, List, ◌++◌, Option, Result, Ok, Err}
use Rattle.std.specs.Prelude.{OnOk}
use Rattle.std.specs.Io.KnownBytes.{Appends}
use Rattle.std.proofs.KnownBytes.{Appends-trans}

-- the text x was written, and then y by a call with the result r; if r is an `Ok`, `x ++ y` was written
pub behind : {A E : Type 0} (r : Result A E) (a b c : Option (List ℕ)) (x y : List ℕ) → Appends a b x → OnOk r (Appends b c y) → OnOk r (Appends a c (x ++ y))
behind (Ok v) a b c x y first more = Appends-trans a b c x y first more
behind (Err e) a b c x y first more = tt
