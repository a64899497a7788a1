-- If `finalize` failed, the encoder hasn't taken any message in this buffer: if it had, the result would be an `Ok`, by
-- the clause `fits`. Nothing has changed.
use Rattle.std.proofs.Common.{drop, List, ℕ, ap, refl, length, arith}
use Rattle.cobs_c.proofs.encoder.jcobs_encoder_finish.Goals as goal

pub returns-in-Err : goal.returns-in-Err
returns-in-Err c =
    let e = c.in-Err.ensures in
    record {
      finishes = rw c.too_small-in-Err.ensures (record {
        writes = λ m h. let no = e.fits m h in absurd cc;
        -- the status isn't OK, so the premises of these two fields are false
        returned = λ ok. absurd (omega (arith, ok));
        fresh = λ ok. absurd (omega (arith, ok));
        too_small = λ _. refl;
        rejected = λ _. e.refused.1;
        empty = λ _. refl;
        rest = ap (drop 0) e.refused.0;
        bound = omega arith;
        len = ap (λ (l : List ℕ). length l) e.refused.0;
      });
    }
