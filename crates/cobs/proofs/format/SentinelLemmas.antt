-- Lemmas on frames for another sentinel, and on frames between sentinels. XORing each byte twice changes nothing
-- (`xor_each-twice`), so each fact about the sentinel 0 holds for every sentinel. The main facts: no frame for a
-- sentinel contains it (`no_sentinel_for`), and bytes without the sentinel contain no zero after the XOR
-- (`coded_nonzero`).
use Rattle.std.proofs.Common.{rules, get_or, ◌≡◌, ◌≢◌, ℕ, length-append, ◌+◌, ◌-◌, ◌<◌, ◌≤◌, List, [], ◌∷◌, length, drop, take, set, refl, sym, ap, ◌∙◌, subst, arith, take_at}
use borrow.Rule.Slice.PartMut.{put_mid}
use Rattle.std.specs.Int.Bits.{bit_xor, xor_self}
use Rattle.std.proofs.lemmas.List.{get_or-map, same_lists, places, take-map, drop-map, take_rest}
use Rattle.std.proofs.lemmas.List.Elements.{All-map, All-weaker}
use Rattle.cobs.specs.Grammar.{HasNoZero, IsEncodedFrame, IsFrame}
use Rattle.cobs.specs.Sentinel.{xor_each, IsEncodedFrameFor, IsDelimitedFrame, IsFreeOf, between_ends}
use Rattle.cobs.proofs.format.FrameLemmas.{frame_nonzero}
use Rattle.cobs.proofs.bytes.XoredLemmas.{xor_twice}

-- a second XOR with s restores the bytes
pub xor_each-twice : (s : ℕ) (f : List ℕ) → xor_each s (xor_each s f) ≡ f
xor_each-twice s [] = refl
xor_each-twice s (b ∷ f) = rw (xor_twice b s, xor_each-twice s f) refl

-- a part of some bytes can be taken before or after each byte is XORed with s
module _ (bytes : List ℕ) (s : ℕ) where
  -- the first n bytes
  pub front_xored : (n : ℕ) → xor_each s (take n bytes) ≡ take n (xor_each s bytes)
  front_xored n = grind (arith, take-map)

  -- the bytes from index i on
  pub rest_xored : (i : ℕ) → xor_each s (take (length bytes - i) (drop i bytes)) ≡ drop i (xor_each s bytes)
  rest_xored i = grind (arith, take_rest, drop-map)

-- the byte at index i, XORed with s, is a zero if and only if the byte is s
module _ (bytes : List ℕ) (s i : ℕ) (inside : i < length bytes) where
  pub coded_at : get_or (xor_each s bytes) i 0 ≡ bit_xor (get_or bytes i 0) s
  coded_at = grind (arith, get_or-map)

  pub coded_zero : get_or bytes i 0 ≡ s → get_or (xor_each s bytes) i 0 ≡ 0
  coded_zero is = grind (arith, coded_at, xor_self)

  pub coded_some : get_or bytes i 0 ≢ s → get_or (xor_each s bytes) i 0 ≢ 0
  coded_some other e = other (sym (xor_twice (get_or bytes i 0) s) ∙ ap (λ x. bit_xor x s) (sym coded_at ∙ e))

-- `part` was put into `dest` at index 1, and a zero was set before and after its first n bytes. If the bytes of `part`
-- after these n bytes are those of `dest`, the bytes after both zeros are those of `dest` too.
pub behind_sentinels : (dest part : List ℕ) (k n : ℕ) → n ≤ k → length part ≡ k → k < length dest → drop n part ≡ drop n (take k (drop 1 dest))
    → drop (n + 2) (set (set (put_mid 1 k dest part) 0 0) (n + 1) 0) ≡ drop (n + 2) dest
behind_sentinels dest part k n short len within behind =
    -- the bytes are compared one by one; the premise `behind` is used for the byte at the same place of the part
    same_lists _ _ (search (rules, places)) (λ i d h. grind (arith, places, ap (λ x. get_or x (1 + i) d) behind))

-- FREE OF THE SENTINEL

-- bytes without s have no zero after the XOR with s
pub coded_nonzero : (f : List ℕ) (s : ℕ) → IsFreeOf s f → HasNoZero (xor_each s f)
coded_nonzero f s free =
    -- if the XOR of a byte and s is 0, a second XOR with s shows that the byte is s
    All-map (λ b. b ≢ 0) (λ b. bit_xor b s) f (All-weaker (λ b. b ≢ s) (λ b. bit_xor b s ≢ 0) (λ b other e. other (sym (xor_twice b s) ∙ ap (λ x. bit_xor x s) e)) f free)

-- no byte of an encoded frame is a zero
pub encoded_nonzero : {f m : List ℕ} → IsEncodedFrame f m → HasNoZero f
encoded_nonzero {f} {m} e = frame_nonzero f m e.reads

-- a frame, after each byte is XORed with s, doesn't contain s
pub no_sentinel : (f : List ℕ) (s : ℕ) → IsFrame f → IsFreeOf s (xor_each s f)
no_sentinel f s (m, r) = All-map (λ b. b ≢ s) (λ b. bit_xor b s) f
    -- if the XOR of a byte and s is s, a second XOR with s shows that the byte is 0
    (All-weaker (λ b. b ≢ 0) (λ b. bit_xor b s ≢ s) (λ b some is. some (sym (xor_twice b s) ∙ ap (λ x. bit_xor x s) is ∙ xor_self s)) f (frame_nonzero f m r))

-- bytes that are a frame after the XOR with s don't contain s
pub no_sentinel_for : (s : ℕ) (f : List ℕ) → IsFrame (xor_each s f) → IsFreeOf s f
no_sentinel_for s f frame = subst (IsFreeOf s) (xor_each-twice s f) (no_sentinel _ s frame)

-- an encoded frame for the sentinel s doesn't contain s
pub encoded_free : (s : ℕ) (f : List ℕ) {m : List ℕ} → IsEncodedFrameFor s f m → IsFreeOf s f
encoded_free s f {m} e = no_sentinel_for s f (m, e.reads)

-- the bytes between the two sentinels of a delimited frame contain no zero
pub delimited_nonzero : {bytes m : List ℕ} → IsDelimitedFrame bytes m → HasNoZero (between_ends bytes)
delimited_nonzero (f, e, is) = grind (arith, take_at, length-append, encoded_nonzero e)
