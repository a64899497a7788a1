-- Bytes that are fed quietly (`FeedsQuietly`) have the effect of as many feeds, one after another. So a fact that every
-- feed with the result `Ok(None)` preserves is preserved by all these bytes (`ran-on`, by induction on their number).
-- For example, no piece has ended in them (`piece-run`, `piece-all`). The lemmas at the end say which bytes of the
-- buffer don't change (`rest_kept`, `rest_read`).
use Rattle.std.proofs.Common.{◌≡◌, ◌≢◌, ℕ, zero, suc, ◌+◌, ◌-◌, ◌<◌, ◌≤◌, Bool, List, [], ◌∷◌, ◌++◌, length, take, drop, set, get_or, ap, subst, refl, arith, append_assoc, take_all, None, Ok}
use Rattle.std.proofs.Math.Seq.{take-length}
use Rattle.std.proofs.lemmas.List.{drop_more, take_more_set, drop-set-lt, drop-drop}
use Rattle.cobs.specs.declared.dec.unbuffered.UnbufferedDecoder.{UnbufferedDecoder}
use Rattle.std.proofs.lemmas.List.Elements.{All-head, All-tail}
use Rattle.std.proofs.lemmas.Bool.{ne_eqb, cases_lt}
use Rattle.cobs.specs.Grammar.{HasNoZero}
use Rattle.cobs.specs.Feed.{Phase, Within, Overlong}
use Rattle.cobs.specs.FeedPiece.{TakesPiece, end_reported}
use Rattle.cobs.specs.Fields.Decoders.{phase_of, phase_with}
use Rattle.cobs.specs.Internal.FeedsQuietly.{FeedsQuietly}
use Rattle.cobs.specs.Step.{next_phase, next_buffer, next_result}
use Rattle.cobs.specs.Table.{written_in}
use Rattle.cobs.proofs.streaming.FeedLemmas.{Feeds-step}
use Rattle.cobs.proofs.streaming.ByByteLemmas.{piece-more, piece-nothing}
use Rattle.cobs.proofs.bytes.ListLemmas.{part-nonzero}

-- the list `buffer` in which xs is written over the elements from index `count` on
abbrev pub over : ℕ → List ℕ → List ℕ → List ℕ
over count buffer xs = take count buffer ++ (xs ++ drop (count + length xs) buffer)

-- to write x at index `count`, and then xs after it, is to write `x ∷ xs` at index `count`
pub over-cons : (count x : ℕ) (xs buffer : List ℕ) → count < length buffer → over (count + 1) (set buffer count x) xs ≡ over count buffer (x ∷ xs)
over-cons count x xs buffer room = grind (arith, take_more_set, append_assoc, drop-set-lt)

-- the first `suc r` bytes from index i on are the byte at index i, and then the first r bytes from index i + 1 on
from_here : (bytes : List ℕ) (i r : ℕ) → i < length bytes → take (suc r) (drop i bytes) ≡ get_or bytes i 0 ∷ take r (drop (i + 1) bytes)
from_here bytes i r within = grind (arith, drop_more)

-- P is a fact about a buffer, a phase and the number of bytes fed so far. If each byte that returns `Ok(None)`
-- preserves P, then P is also preserved if r bytes from index i on are fed quietly.
pub ran-on : (P : List ℕ → Phase → ℕ → Type 0) (bytes : List ℕ)
    → ((buffer : List ℕ) (phase : Phase) (i : ℕ) → i < length bytes → P buffer phase i → let byte = get_or bytes i 0 in next_result (length buffer) phase byte ≡ Ok None
    → P (next_buffer buffer phase byte) (next_phase (length buffer) phase byte) (i + 1))
    → (buffer buffer' : List ℕ) (phase phase' : Phase) (i r : ℕ) → i + r ≤ length bytes → P buffer phase i → FeedsQuietly buffer phase (take r (drop i bytes)) buffer' phase' → P buffer' phase' (i + r)
ran-on P bytes more buffer buffer' phase phase' i zero within s f = grind arith
ran-on P bytes more buffer buffer' phase phase' i (suc r) within s f =
    let fed = rw (from_here bytes i r (omega arith)) at f in
    let byte = get_or bytes i 0 in
    -- P holds after the first of these bytes, so it holds after the others
    let rest = ran-on P bytes more (next_buffer buffer phase byte) buffer' (next_phase (length buffer) phase byte) phase' (i + 1) r (omega arith) (more buffer phase i (omega arith) s fed.0) fed.1 in
    -- (i + 1) + r is i + suc r
    subst (P buffer' phase') (omega arith) rest

-- if no piece has ended in the first i bytes, and the next r bytes are fed quietly, no piece has ended in the
-- first i + r bytes
pub piece-run : {buffer₀ buffer buffer' : List ℕ} {phase₀ phase phase' : Phase} (bytes : List ℕ) (i r : ℕ) → i + r ≤ length bytes → TakesPiece buffer₀ phase₀ (take i bytes) None buffer phase
    → FeedsQuietly buffer phase (take r (drop i bytes)) buffer' phase' → TakesPiece buffer₀ phase₀ (take (i + r) bytes) None buffer' phase'
-- `piece-more` says that a byte that returns `Ok(None)` ends no piece, so `ran-on` applies
piece-run {buffer₀} {phase₀ = phase₀} bytes i r within t f =
    ran-on (λ buffer phase i. TakesPiece buffer₀ phase₀ (take i bytes) None buffer phase) bytes
    (λ buffer phase i within t quiet. piece-more bytes i within t (Feeds-step _ _ _) (λ _. ap end_reported quiet)) _ _ _ _ i r within t f

-- no piece ends in bytes that are fed quietly
pub piece-all : (bytes buffer buffer' : List ℕ) (phase phase' : Phase) → FeedsQuietly buffer phase bytes buffer' phase'
    → TakesPiece buffer phase bytes None buffer' phase'
-- this is `piece-run` from index 0 on, for all bytes
piece-all bytes buffer buffer' phase phase' f =
    rw (take_all (0 + length bytes) bytes (omega arith)) at
    (piece-run bytes 0 (length bytes) (omega arith) (piece-nothing buffer phase) (rw (← take-length bytes) at f))

-- if no piece has ended in the first i bytes, but the piece is too long, and none of the next r bytes is a zero, then
-- this also holds for the first i + r bytes
pub piece-over : {buffer₀ buffer : List ℕ} {phase₀ : Phase} (bytes : List ℕ) (i r : ℕ) → i + r ≤ length bytes → HasNoZero (take r (drop i bytes))
    → TakesPiece buffer₀ phase₀ (take i bytes) None buffer Overlong → TakesPiece buffer₀ phase₀ (take (i + r) bytes) None buffer Overlong
piece-over {buffer₀} {buffer} {phase₀} bytes i zero within some t =
    subst (λ (k : ℕ). TakesPiece buffer₀ phase₀ (take k bytes) None buffer Overlong) (omega arith) t
piece-over {buffer₀} {buffer} {phase₀} bytes i (suc r) within some t =
    let rest = rw (from_here bytes i r (omega arith)) at some in
    -- the first of the r bytes isn't a zero, so the phase stays `Overlong`, and no piece ends
    let nz = All-head (λ b. b ≢ 0) _ _ rest in
    let over : next_phase (length buffer) Overlong (get_or bytes i 0) ≡ Overlong = rw (ne_eqb _ 0 nz) refl in
    let one = rw over at (piece-more bytes i (omega arith) t (Feeds-step buffer Overlong (get_or bytes i 0)) (λ z. absurd (nz z))) in
    -- then the other r bytes follow, by induction
    subst (λ (k : ℕ). TakesPiece buffer₀ phase₀ (take k bytes) None buffer Overlong) (omega arith) (piece-over bytes (i + 1) r (omega arith) (All-tail (λ b. b ≢ 0) _ _ rest) one)

-- if a byte of the block is missing, or a byte of output is written, a piece has begun, so the phase is `Within`
pub phase_with-begun : (full : Bool) (left count : ℕ) → 0 < left + count → phase_with full left count ≡ Within full left count
phase_with-begun full left count h = grind arith

-- THE BYTES AFTER THE OUTPUT

-- nonzero bytes that are fed quietly don't make the output shorter, and don't change the bytes of the buffer after the
-- output
quiet_rest : (xs buffer buffer' : List ℕ) (phase phase' : Phase) → HasNoZero xs → FeedsQuietly buffer phase xs buffer' phase' →
    (written_in phase ≤ written_in phase') × ((k : ℕ) → written_in phase' ≤ k → drop k buffer' ≡ drop k buffer)
quiet_rest [] buffer buffer' phase phase' nz f = grind arith
quiet_rest (x ∷ xs) buffer buffer' phase phase' nz f = grind (arith, ne_eqb, cases_lt, drop-set-lt, All-head, All-tail, quiet_rest xs (next_buffer buffer phase x) buffer' (next_phase (length buffer) phase x) phase' (All-tail (λ b. b ≢ 0) x xs nz) f.1)

-- if the output of the decoder ends at index k or before it, the bytes of the buffer from index k on are as they were
pub rest_kept : (xs buffer buffer' : List ℕ) (inner inner' : UnbufferedDecoder) (k : ℕ) → HasNoZero xs → FeedsQuietly buffer (phase_of inner) xs buffer' (phase_of inner') → inner'.written ≤ k → drop k buffer' ≡ drop k buffer
rest_kept xs buffer buffer' inner inner' k nz f past = grind (arith, quiet_rest)

-- A decoder in place has read the bytes from index `read` to index `at`, and no byte from `read` to `end` is a zero. If
-- its output ends at `at` or before it, the bytes from `at` on are as they were.
pub rest_read : (buffer buffer' : List ℕ) (inner inner' : UnbufferedDecoder) (read at end : ℕ) → read ≤ at → at ≤ end → HasNoZero (take (end - read) (drop read buffer))
    → FeedsQuietly buffer (phase_of inner) (take (at - read) (drop read buffer)) buffer' (phase_of inner') → inner'.written ≤ at → drop at buffer' ≡ drop (at - read) (drop read buffer)
rest_read buffer buffer' inner inner' read at end order within nz f past =
    -- the bytes that were read are among those from `read` to `end`, so they have no zero, as `rest_kept` needs
    let none = part-nonzero 0 (at - read) (end - read) (drop read buffer) nz (omega arith) in
    grind (arith, rest_kept, drop-drop)
