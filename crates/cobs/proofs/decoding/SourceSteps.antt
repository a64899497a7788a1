-- If each byte of a source is XORed with its sentinel, the bytes before the first sentinel become the bytes before the
-- first zero (`front-head`, `xor_head`). So the result for these bytes is the result for the whole source
-- (`result_of_sentinel_decode-head`).
use Rattle.std.proofs.Common.{◌≡◌, ◌≢◌, ℕ, ◌<◌, ◌≤◌, All, List, [], ◌∷◌, length, take, get_or, bit_xor, arith}
use Rattle.std.specs.Int.Bits.{xor_self}
use Rattle.std.proofs.lemmas.List.{get_or-map, length-map, take-map}
use Rattle.cobs.specs.Overwritten.{overwritten}
use Rattle.cobs.specs.Grammar.{HasNoZero}
use Rattle.cobs.specs.Piece.{kept_output}
use Rattle.cobs.specs.Sentinel.{xor_each}
use Rattle.cobs.specs.Stream.{head}
use Rattle.cobs.specs.Decode.{head_result, head_result_within, result_of_sentinel_decode}
use Rattle.cobs.proofs.decoding.HeadLemmas.{front_is_head}
use Rattle.cobs.proofs.decoding.KeptLemmas.{kept_output-empty}
use Rattle.cobs.proofs.decoding.OutcomeSteps.{overwritten-none}
use Rattle.cobs.proofs.format.SentinelLemmas.{coded_nonzero}

-- RESULTS BY THE KEPT OUTPUT

-- the result for the bytes h in a buffer of n bytes
module _ (h : List ℕ) (n : ℕ) where
  -- if the kept output of h fits
  pub result-fits : length (kept_output h) ≤ n → head_result h ≡ head_result_within h n
  result-fits fits = grind arith

-- THE SOURCE BEFORE ITS FIRST SENTINEL

-- after the XOR with s, the bytes before the first s of the source are the bytes before the first zero
pub front-head : (source : List ℕ) (end s : ℕ) → end ≤ length source → HasNoZero (xor_each s (take end source)) → (end < length source → get_or source end 0 ≡ s)
    → xor_each s (take end source) ≡ head (xor_each s source)
front-head source end s within nonzero stop =
    let same : take end (xor_each s source) ≡ xor_each s (take end source) = take-map (λ b. bit_xor b s) end source in
    grind (arith, front_is_head, get_or-map, xor_self, length-map)

-- the first `end` bytes of the source don't contain s, and an s or the end of the source follows them
module _ (source : List ℕ) (end s : ℕ) (within : end ≤ length source) (before : All (λ byte. byte ≢ s) (take end source)) (stop : end < length source → get_or source end 0 ≡ s) where
  -- after the XOR with s, these bytes contain no zero
  pub xor_no_zero : HasNoZero (xor_each s (take end source))
  xor_no_zero = coded_nonzero (take end source) s before

  -- after the XOR with s, these bytes are the bytes before the first zero
  pub xor_head : xor_each s (take end source) ≡ head (xor_each s source)
  xor_head = grind (arith, front-head, xor_no_zero)

-- the result for a source that isn't empty, by the bytes before its first sentinel
pub result_of_sentinel_decode-head : (source : List ℕ) (s n : ℕ) → 0 < length source → head_result_within (head (xor_each s source)) n ≡ result_of_sentinel_decode (xor_each s source) n
result_of_sentinel_decode-head source s n some = grind (arith, length-map)

-- an empty source leaves the buffer as it is
pub nothing_kept : (source dest : List ℕ) (s : ℕ) → length source ≡ 0 → dest ≡ overwritten dest (kept_output (head (xor_each s source)))
unfolding head
nothing_kept [] dest s e = grind (arith, kept_output-empty, overwritten-none)
nothing_kept (byte ∷ source) dest s e = grind arith
