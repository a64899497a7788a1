-- Lemmas on the bytes after the first zero, which are shown if the bytes up to this zero are skipped: bytes in two
-- parts (`begun-append`, `skips_on-append`), and no bytes (`begun-none`, `skips_on-none`).
use Rattle.std.proofs.Common.{◌≡◌, ◌==◌, ℕ, Bool, true, false, cond, List, [], ◌∷◌, ◌++◌, refl}
use Rattle.cobs_live.specs.Watched.{begun, skips_on}

-- the bytes of `t ++ u` that aren't skipped are those of t, followed by those of u. If bytes are still skipped after t,
-- the bytes of u up to and including its first zero are skipped, or all its bytes if it has no zero.
pub begun-append : (skipping : Bool) (t u : List ℕ) → begun skipping (t ++ u) ≡ begun skipping t ++ begun (skips_on skipping t) u
begun-append false t u = refl
begun-append true [] u = refl
begun-append true (byte ∷ bytes) u = elim (byte == 0) as (λ zero. cond zero (bytes ++ u) (begun true (bytes ++ u)) ≡ cond zero bytes (begun true bytes) ++ begun (cond zero false (skips_on true bytes)) u) [
  | true ↦ refl
  | false ↦ begun-append true bytes u
]

-- whether bytes are still skipped after `t ++ u` depends only on u, and on whether they are still skipped after t
pub skips_on-append : (skipping : Bool) (t u : List ℕ) → skips_on skipping (t ++ u) ≡ skips_on (skips_on skipping t) u
skips_on-append false t u = refl
skips_on-append true [] u = refl
skips_on-append true (byte ∷ bytes) u = elim (byte == 0) as (λ zero. cond zero false (skips_on true (bytes ++ u)) ≡ skips_on (cond zero false (skips_on true bytes)) u) [
  | true ↦ refl
  | false ↦ skips_on-append true bytes u
]

-- after no bytes, bytes are skipped if and only if they were skipped before
pub skips_on-none : (skipping : Bool) → skips_on skipping [] ≡ skipping
skips_on-none true = refl
skips_on-none false = refl

-- without a byte, no byte is shown
pub begun-none : (skipping : Bool) → begun skipping [] ≡ []
begun-none true = refl
begun-none false = refl
