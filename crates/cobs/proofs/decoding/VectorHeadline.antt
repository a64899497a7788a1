-- If the list that is passed to `decode_vec` or `decode_vec_with_sentinel` is a piece, the call returns the message m
-- if and only if the list is a frame of m, unless memory runs out. This follows from `decoded_reads` for `decode_vec`,
-- and from `decoded_head_reads` for `decode_vec_with_sentinel`. Both lemmas are by `reads_iff` of `OutcomeLemmas`.
use Rattle.std.proofs.Common.{arith, ◌≡◌, ℕ, ◌<◌, ◌↔◌, cond, List, [], ◌∷◌, length, All, Result, Ok, Err}
use Rattle.cobs.specs.Grammar.{Reads}
use Rattle.cobs.specs.Piece.{output, kept_output, is_whole}
use Rattle.cobs.specs.Decode.{decoded, decoded_head}
use Rattle.cobs.specs.Headline.{IsPiece}
use Rattle.cobs.specs.declared.error.DecodeError.{DecodeError}
use Rattle.cobs.specs.declared.error.DecodeError.TheVariants.{InvalidFrame}
use Rattle.cobs.proofs.decoding.OutcomeLemmas.{first_piece_alone, head_alone, reads_iff}

-- if a result is the output of a whole piece, or an error for a broken piece, it is the message m if and only if the
-- piece is a frame of m
returned_reads : (f m : List ℕ) (count : ℕ) → All (λ b. b < 256) f → IsPiece f → (returned : Result (List ℕ) DecodeError)
    → returned ≡ cond (is_whole f) (Ok (output f)) (Err (InvalidFrame count)) → (returned ≡ Ok m) ↔ Reads f m
returned_reads f m count below piece returned is = let both = reads_iff f m below in grind arith

-- a piece is its own first piece, so `decoded` has its output, or an error if it is broken
decoded_alone : (f : List ℕ) → IsPiece f → decoded f ≡ cond (is_whole f) (Ok (output f)) (Err (InvalidFrame (length (output f))))
decoded_alone [] piece = grind arith
decoded_alone (byte ∷ bytes) piece = grind (arith, first_piece_alone)

-- a piece has no zero, so `decoded_head` has its output, or an error if it is broken
decoded_head_alone : (f : List ℕ) → IsPiece f → decoded_head f ≡ cond (is_whole f) (Ok (output f)) (Err (InvalidFrame (length (kept_output f))))
decoded_head_alone [] piece = grind arith
decoded_head_alone (byte ∷ bytes) piece = grind (arith, head_alone)

-- f is a list of numbers below 256
module _ (f : List ℕ) (below : All (λ b. b < 256) f) (m : List ℕ) where
  -- `decoded` of a piece is the message m if and only if the piece is a frame of m
  pub decoded_reads : IsPiece f → (decoded f ≡ Ok m) ↔ Reads f m
  decoded_reads piece = returned_reads f m (length (output f)) below piece (decoded f) (decoded_alone f piece)

  -- `decoded_head` of a piece is the message m if and only if the piece is a frame of m
  pub decoded_head_reads : IsPiece f → (decoded_head f ≡ Ok m) ↔ Reads f m
  decoded_head_reads piece = returned_reads f m (length (kept_output f)) below piece (decoded_head f) (decoded_head_alone f piece)
