-- Lemmas on the kept output of a piece, and on whether a piece is whole. The main lemmas are about a block and a piece
-- after it: `front-kept` and `front-whole`. They cut the piece after its first part (`PieceCuts`).
use Rattle.std.proofs.Common.{◌≡◌, ◌≢◌, ℕ, ◌+◌, ◌-◌, ◌<◌, ◌≤◌, Bool, false, cond, List, [], ◌∷◌, ◌++◌, length, take, refl, arith, append_assoc, length-append, take_all, take_at, drop_at, eqb, Ok, Err, Result}
use Rattle.std.proofs.Math.Seq.{take-append-add}
use Rattle.std.proofs.lemmas.Bool.{ne_eqb, eq-eqb}
use Rattle.cobs.specs.Grammar.{bytes_of, joint, message_of, last_of, IsBlock}
use Rattle.cobs.specs.Piece.{parts, output, last_part, is_whole, kept_output, IsWhole, missing, parts_after}
use Rattle.cobs.specs.Decode.{head_result, head_result_within}
use Rattle.cobs.specs.declared.error.DecodeError.TheVariants.{InvalidFrame}
use Rattle.cobs.proofs.decoding.PieceCuts.{output-last, output-more, output-empty, last_part-more, last_part-last, is_whole-of}
use Rattle.cobs.specs.Overwritten.{overwritten}
use Rattle.cobs.specs.declared.error.DecodeError.{DecodeError}

-- the equation of `kept_output`
kept-is : (p : List ℕ) → kept_output p ≡ cond (is_whole p) (output p) (take (length (output p) - length (bytes_of (last_part p))) (output p))
unfolding kept_output
kept-is p = refl

pub kept_output-empty : kept_output [] ≡ []
unfolding kept_output
kept_output-empty = grind (arith, output-empty, take_all)

-- the whole output of a whole piece is kept
pub all-kept : (p : List ℕ) → IsWhole p → kept_output p ≡ output p
all-kept p whole = rw (kept-is p, whole) refl

-- the result for the bytes before a zero, by the missing bytes of their last part
pub head_result-is : (h : List ℕ) → let n = length (kept_output h) in head_result h ≡ cond (eqb (missing (last_part h)) 0) (Ok n) (Err (InvalidFrame n))
unfolding last_part parts parts_after
head_result-is [] = grind (arith, kept_output-empty)
head_result-is (byte ∷ bytes) = grind (arith, is_whole-of, all-kept)

-- the result and the buffer after the bytes h are decoded into a buffer that may be too short
abbrev pub Decoded : List ℕ → List ℕ → List ℕ → Result ℕ DecodeError → Type 0
Decoded h old buffer result = record { returned : result ≡ head_result_within h (length old); buffer : buffer ≡ overwritten old (kept_output h) }

-- the result and the buffer after the bytes h are decoded in place, for which the buffer is never too short
abbrev pub DecodedInPlace : List ℕ → List ℕ → List ℕ → Result ℕ DecodeError → Type 0
DecodedInPlace h old buffer result = record { returned : result ≡ head_result h; buffer : buffer ≡ overwritten old (kept_output h) }

-- the bytes of the last block are no more than the bytes of the message
last_fits : (blocks : List (List ℕ)) → length (bytes_of (last_of blocks)) ≤ length (message_of blocks)
last_fits [] = omega arith
last_fits (part ∷ []) = omega arith
last_fits (part ∷ next ∷ more) = grind (arith, length-append, last_fits (next ∷ more))

-- the bytes of the last part are no more than the bytes of the output
last_part_fits : (p : List ℕ) → length (bytes_of (last_part p)) ≤ length (output p)
unfolding last_part output
last_part_fits p = last_fits (parts p)

-- a block is a whole piece
pub block-whole : (block : List ℕ) → IsBlock block → IsWhole block
block-whole block is = grind (arith, is_whole-of, last_part-last, eq-eqb)

-- a piece with fewer bytes than its code says isn't whole
pub broken-part : (code : ℕ) (bytes : List ℕ) → length bytes + 1 < code → is_whole (code ∷ bytes) ≡ false
broken-part code bytes short = grind (arith, is_whole-of, last_part-last, ne_eqb)

-- nothing is kept of a piece that has fewer bytes than its code says
pub kept-broken : (code : ℕ) (bytes : List ℕ) → length bytes + 1 < code → kept_output (code ∷ bytes) ≡ []
kept-broken code bytes short = grind (arith, output-last, last_part-last, kept-is, broken-part)

-- the bytes of a block are followed by a byte x and the bytes p
module _ (code : ℕ) (bytes : List ℕ) (x : ℕ) (p : List ℕ) (is : IsBlock (code ∷ bytes)) where
  -- the last part is the last part of the bytes after the block
  last-same : last_part (code ∷ (bytes ++ x ∷ p)) ≡ last_part (x ∷ p)
  last-same = grind (arith, last_part-more, drop_at, length-append)

  -- they are whole if and only if the bytes after the block are whole
  whole-same : is_whole (code ∷ (bytes ++ x ∷ p)) ≡ is_whole (x ∷ p)
  whole-same = grind (arith, is_whole-of, last-same)

  -- the output is the block's bytes, its joint, and the output of the bytes after the block
  out-behind : output (code ∷ (bytes ++ x ∷ p)) ≡ (bytes ++ joint (code ∷ bytes)) ++ output (x ∷ p)
  out-behind = grind (arith, output-more, take_at, drop_at, length-append)

-- a block and the bytes p after it are whole if and only if p is whole
pub front-whole : (block p : List ℕ) → IsBlock block → p ≢ [] → is_whole (block ++ p) ≡ is_whole p
front-whole [] p is some = absurd is
front-whole (code ∷ bytes) [] is some = grind arith
front-whole (code ∷ bytes) (x ∷ p) is some = whole-same code bytes x p is

-- if k bytes at the end of `out` are removed, unless `whole` is true, the bytes `front` before them stay
cut-behind : (whole : Bool) (front out : List ℕ) (k : ℕ) → k ≤ length out → cond whole (front ++ out) (take (length (front ++ out) - k) (front ++ out)) ≡ front ++ cond whole out (take (length out - k) out)
cut-behind whole front out k fits =
    let same : length (front ++ out) - k ≡ length front + (length out - k) = omega (arith, length-append front out) in
    grind (arith, take-append-add)

-- the kept output of a block and the bytes p after it: the block's bytes, its joint, and the kept output of p
pub front-kept : (block p : List ℕ) → IsBlock block → p ≢ [] → kept_output (block ++ p) ≡ bytes_of block ++ joint block ++ kept_output p
front-kept [] p is some = absurd is
front-kept (code ∷ bytes) [] is some = grind arith
front-kept (code ∷ bytes) (x ∷ p) is some = grind (arith, kept-is, whole-same, last-same, out-behind, cut-behind, last_part_fits, append_assoc)
