-- Lemmas for `feed_piece`: zeros outside a piece are fed quietly (`FeedsQuietly`; `quiet-zeros`), and a piece is open
-- after nonzero bytes that are fed quietly (`open-after`, by `stays-open`). The proofs of `quiet-zeros` and
-- `stays-open` are by induction on the bytes.
use Rattle.std.proofs.Common.{◌≡◌, ◌≢◌, ℕ, zero, suc, ◌<◌, ◌≤◌, true, false, List, [], ◌∷◌, length, take, None, refl, arith}
use Rattle.std.proofs.lemmas.Bool.{ne_eqb, cases_Bool, cases_lt}
use Rattle.std.proofs.lemmas.List.Elements.{All-head, All-tail}
use Rattle.cobs.specs.Decode.{leading_zeros}
use Rattle.cobs.specs.Feed.{Phase, Idle, Within, Overlong}
use Rattle.cobs.specs.Grammar.{HasNoZero}
use Rattle.cobs.specs.Internal.FeedsQuietly.{FeedsQuietly}
use Rattle.cobs.specs.FeedPiece.{end_reported}
use Rattle.cobs.specs.Step.{end_result, next_buffer, next_phase}
use Rattle.std.proofs.lemmas.List.{set_past}

-- zeros outside a piece are fed quietly
pub quiet-zeros : (buffer bytes : List ℕ) (n : ℕ) → n ≤ leading_zeros bytes → FeedsQuietly buffer Idle (take n bytes) buffer Idle
quiet-zeros buffer bytes zero within = (refl, refl)
quiet-zeros buffer [] (suc n) within = grind arith
quiet-zeros buffer (zero ∷ bytes) (suc n) within = (refl, quiet-zeros buffer bytes n (omega (arith, within)))
quiet-zeros buffer (suc b ∷ bytes) (suc n) within = grind arith

-- after a byte that isn't a zero, a piece is open
opened : (n : ℕ) (phase : Phase) (byte : ℕ) → byte ≢ 0 → next_phase n phase byte ≢ Idle
opened n Idle byte nz = grind (arith, ne_eqb)
opened n Overlong byte nz = grind (arith, ne_eqb)
opened n (Within full (suc left) count) byte nz = grind (arith, ne_eqb, cases_Bool)
opened n (Within true zero count) byte nz = grind (arith, ne_eqb)
opened n (Within false zero count) byte nz = grind (arith, ne_eqb, cases_Bool)

-- if a piece is open, it is still open after nonzero bytes that are fed quietly
stays-open : (bytes buffer buffer' : List ℕ) (phase phase' : Phase) → HasNoZero bytes → FeedsQuietly buffer phase bytes buffer' phase' → phase ≢ Idle → phase' ≢ Idle
stays-open [] buffer buffer' phase phase' none f begun = grind arith
stays-open (byte ∷ bytes) buffer buffer' phase phase' none f begun =
    stays-open bytes _ buffer' _ phase' (All-tail (λ b. b ≢ 0) byte bytes none) f.1 (opened (length buffer) phase byte (grind arith))

-- after nonzero bytes that are fed quietly, a piece is open if one was open before or if there is a byte
pub open-after : (bytes buffer buffer' : List ℕ) (phase phase' : Phase) → HasNoZero bytes → FeedsQuietly buffer phase bytes buffer' phase' → (phase ≡ Idle → 0 < length bytes) → phase' ≢ Idle
open-after [] buffer buffer' Idle phase' none f some = grind arith
open-after (byte ∷ bytes) buffer buffer' Idle phase' none f some =
    stays-open bytes _ buffer' _ phase' (All-tail (λ b. b ≢ 0) byte bytes none) f.1 (opened (length buffer) Idle byte (grind (arith, All-head)))
open-after bytes buffer buffer' (Within full left count) phase' none f some = grind (arith, stays-open)
open-after bytes buffer buffer' Overlong phase' none f some = grind (arith, stays-open)

-- if the buffer has no room for the output of a nonzero byte, the byte doesn't change the buffer
pub full-buffer : (buffer : List ℕ) (phase : Phase) (byte : ℕ) → byte ≢ 0 → next_phase (length buffer) phase byte ≡ Overlong → next_buffer buffer phase byte ≡ buffer
full-buffer buffer Idle byte nz over = refl
full-buffer buffer Overlong byte nz over = refl
full-buffer buffer (Within full (suc left) count) byte nz over = grind (arith, ne_eqb, set_past, cases_lt)
full-buffer buffer (Within true zero count) byte nz over = refl
full-buffer buffer (Within false zero count) byte nz over = grind (arith, ne_eqb, set_past, cases_lt)

-- if a piece has begun, the result for a zero reports the end of a piece
pub end_begun : (n : ℕ) (phase : Phase) → phase ≢ Idle → end_reported (end_result n phase) ≢ None
end_begun n Idle begun none = begun refl
end_begun n Overlong begun none = grind arith
end_begun n (Within full (suc left) count) begun none = grind arith
end_begun n (Within full zero count) begun none = grind arith
