-- The length of an encoded frame (`encoded_len`), counted from the runs of its message. The message is cut at its zeros
-- to find its runs. A run and the zero after it need one code, and one more code for each 254 bytes of the run
-- (`encoded_len-run`). The main lemma is the bound, `encoded_len-le`; messages without zeros reach this bound
-- (`encoded_len-nonzero`).
use Rattle.std.proofs.Common.{◌≡◌, ◌≢◌, ℕ, ◌+◌, ◌/◌, ◌<◌, ◌≤◌, ◌==◌, false, List, [], ◌∷◌, ◌++◌, length, map, All, refl, ap, ◌∙◌, subst, arith, length-append}
use Rattle.std.specs.List.{join_with_byte}
use Rattle.std.proofs.lemmas.List.{length-replicate}
use Rattle.std.proofs.lemmas.List.Elements.{All-replicate, All-head, All-tail}
use Rattle.std.proofs.lemmas.List.Splits.{slice_split_none, slice_split_at, join_with_byte-slice_split, length-slice_split}
use Rattle.cobs.specs.Grammar.{HasNoZero}
use Rattle.cobs.specs.Stream.{stretches}
use Rattle.cobs.specs.Length.{runs, full_blocks, encoded_len, max_overhead, max_encoded_len}

-- if bytes have no zero, none of them passes the test at which stretches are cut
pub no_zero : (bytes : List ℕ) → HasNoZero bytes → All (λ b. (b == 0) ≡ false) bytes
no_zero bytes h = grind arith

-- each message has at least one stretch
pub some_stretch : (m : List ℕ) → stretches m ≢ []
some_stretch m e = omega (arith, length-slice_split (λ b. b == 0) m, ap length e)

-- a run that others follow adds one full block for each 254 of its bytes; `parts` has the stretches after it
blocks-cons : (run : ℕ) (parts : List (List ℕ)) → parts ≢ [] → full_blocks (run ∷ map length parts) ≡ run / 254 + full_blocks (map length parts)
blocks-cons run [] some = grind arith
blocks-cons run (p ∷ ps) some = refl

-- a run and the zero after it are one block, and a full block for each 254 bytes of the run
pub encoded_len-run : (bytes m : List ℕ) → HasNoZero bytes → encoded_len (bytes ++ 0 ∷ m) ≡ length bytes + 1 + length bytes / 254 + encoded_len m
encoded_len-run bytes m h = grind (arith, slice_split_at, some_stretch, length-append, blocks-cons)

-- fewer than 254 nonzero bytes and the zero after them need one code in the frame
pub encoded_len-zero : (bytes m : List ℕ) → length bytes < 254 → HasNoZero bytes → encoded_len (bytes ++ 0 ∷ m) ≡ length bytes + 1 + encoded_len m
encoded_len-zero bytes m l h = omega (arith, encoded_len-run bytes m h)

-- some lists, with the bytes a put before the first list; if there are no lists, only the list a
abbrev pub onto_parts : List ℕ → List (List ℕ) → List (List ℕ)
onto_parts a [] = a ∷ []
onto_parts a (p ∷ ps) = (a ++ p) ∷ ps

-- nonzero bytes lengthen the first stretch
pub stretches-front : (bytes m : List ℕ) → HasNoZero bytes → stretches (bytes ++ m) ≡ onto_parts bytes (stretches m)
stretches-front [] m h = grind (arith, some_stretch)
stretches-front (b ∷ bs) m h = grind (arith, All-head, stretches-front bs m (All-tail (λ b. b ≢ 0) b bs h))

-- 254 bytes before the first stretch add one full block, if the message isn't empty; `parts` has the stretches of the
-- message
full_more : (bytes : List ℕ) (parts : List (List ℕ)) → length bytes ≡ 254 → parts ≢ [] → join_with_byte 0 parts ≢ []
    → full_blocks (map length (onto_parts bytes parts)) ≡ 1 + full_blocks (map length parts)
full_more bytes [] l some more = grind arith
full_more bytes ([] ∷ []) l some more = grind arith
full_more bytes ((x ∷ p) ∷ []) l some more = grind (arith, length-append)
full_more bytes (p ∷ q ∷ ps) l some more = grind (arith, length-append)

-- 254 nonzero bytes before more bytes are a full block, which is 255 bytes of the frame
pub encoded_len-full : (bytes m : List ℕ) → length bytes ≡ 254 → HasNoZero bytes → m ≢ [] → encoded_len (bytes ++ m) ≡ 255 + encoded_len m
encoded_len-full bytes m l h more =
    grind (arith, stretches-front, full_more, length-append, join_with_byte-slice_split 0 m)

-- the overhead of a frame, which is `full_blocks` of the message's runs plus 1, is at most `max_overhead` of the
-- message's length; `parts` has the stretches of the message
full_blocks-le : (parts : List (List ℕ)) → full_blocks (map length parts) + 1 ≤ max_overhead (length (join_with_byte 0 parts))
full_blocks-le [] = omega arith
full_blocks-le (p ∷ []) = omega arith
full_blocks-le (p ∷ q ∷ ps) = grind (arith, length-append, full_blocks-le (q ∷ ps))

-- the bound: an encoded frame has at most `max_encoded_len` bytes. `max_encoded_len` depends only on the message's
-- length.
pub encoded_len-le : (m : List ℕ) → encoded_len m ≤ max_encoded_len (length m)
encoded_len-le m =
    -- `h`: the bound for the stretches of m, whose bytes, joined with zeros, are m again
    let h = subst (λ x. full_blocks (runs m) + 1 ≤ max_overhead (length x)) (join_with_byte-slice_split 0 m) (full_blocks-le _) in
    omega arith

-- the frame of a message of at most 254 bytes is one byte longer than the message
pub encoded_len-short : (m : List ℕ) → length m < 255 → encoded_len m ≡ length m + 1
encoded_len-short m short = omega (arith, encoded_len-le m)

-- the frame of a message without zeros is as long as the bound
pub encoded_len-nonzero : (m : List ℕ) → HasNoZero m → encoded_len m ≡ max_encoded_len (length m)
encoded_len-nonzero m h = grind (arith, slice_split_none)

-- for each length n, the frame of some message is as long as the bound: the message of n ones
pub encoded_len-reached : (n : ℕ) → (m : List ℕ) × (length m ≡ n) × All (λ byte. byte < 256) m × (encoded_len m ≡ max_encoded_len n)
encoded_len-reached n =
    let l : length _ ≡ n = length-replicate n 1 in
    -- `h`: the bound is reached with the length of the n ones, which is n (`l`)
    let h = encoded_len-nonzero _ (All-replicate (λ byte. byte ≢ 0) n 1 (λ e. cc)) in
    (_, l, All-replicate (λ byte. byte < 256) n 1 (omega arith), h ∙ ap max_encoded_len l)

-- the bound, as a rule set for the tactic of a function
pub ruleset bounds = encoded_len-le
