-- Each iteration copies one more byte (`copied_more`). After the last byte, no byte of `dest` is left as it was.
use Rattle.std.proofs.Common.{◌≡◌, ◌∙◌, ◌+◌, ◌<◌, ◌++◌, ◌∷◌, [], ℕ, List, length, take, drop, get_or, set, sym, ap, arith, append_assoc, bit_xor, length-take, take_all}
use Rattle.std.proofs.lemmas.List.{append-nil, drop_all, drop_more, length-map, map_more, set_at}
use Rattle.cobs.specs.Bytes.{xor_each}
use Rattle.cobs.proofs.slices.xor_slice.Goals as goal

-- the byte at index i is copied, XORed with s, after the first i bytes
copied_more : (source dest now : List ℕ) (s i : ℕ) → i < length source → length source ≡ length dest → now ≡ xor_each s (take i source) ++ drop i dest
    → set now i (bit_xor (get_or source i 0) s) ≡ xor_each s (take (i + 1) source) ++ drop (i + 1) dest
copied_more source dest now s i inside same is =
    let front : List ℕ = xor_each s (take i source) in
    let long : length front ≡ i = length-map (take i source) (λ b. bit_xor b s) ∙ omega (arith, length-take i source) in
    let parts : now ≡ front ++ get_or dest i 0 ∷ drop (i + 1) dest = is ∙ ap (λ l. front ++ l) (drop_more dest i 0 (omega arith)) in
    let x : ℕ = bit_xor (get_or source i 0) s in
    ap (λ l. set l i x) parts ∙ set_at front _ _ x i long ∙ sym (append_assoc front (x ∷ []) _)
    ∙ ap (λ l. l ++ drop (i + 1) dest) (sym (map_more (λ b. bit_xor b s) source i 0 inside))

pub by_byte-preserved : goal.by_byte-preserved
by_byte-preserved c = copied_more c.args.source.now c.args.dest.now c.by_byte.dest c.args.sentinel c.by_byte.i (omega arith) c.requires c.by_byte.invariant

pub returns : goal.returns
returns c = grind (arith, take_all, drop_all, append-nil)
