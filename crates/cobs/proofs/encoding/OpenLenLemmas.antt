-- Lemmas on `open_len`, the length of the encoded frame from its open block on. The values of that block's nonzero
-- bytes don't matter (`same_start`), so ones stand for them. `Opened-len` connects this number with the length of the
-- whole frame. The last lemmas count it byte by byte (`len-byte`, `len-zero`, `len-full`, `len-end`).
use Rattle.std.proofs.Common.{◌≡◌, ◌≢◌, ℕ, ◌+◌, ◌-◌, ◌/◌, ◌<◌, ◌≤◌, Bool, true, List, [], ◌∷◌, ◌++◌, length, drop, take, get_or, length-drop, length-take-le, take-append-drop, replicate, arith, append-nil, append_assoc, length-append}
use Rattle.std.proofs.lemmas.List.{drop-drop, drop_all, drop_more}
use Rattle.std.proofs.lemmas.List.Elements.{All-append}
use Rattle.cobs.specs.Grammar.{HasNoZero}
use Rattle.cobs.specs.Length.{encoded_len, max_encoded_len, open_len}
use Rattle.cobs.proofs.format.LengthLemmas.{stretches-front, encoded_len-full, encoded_len-nonzero, encoded_len-run, encoded_len-le}
use Rattle.cobs.proofs.format.UniqueLemmas.{len-blocks}
use Rattle.cobs.proofs.encoding.OpenLemmas.{message_of-more}
use Rattle.cobs.proofs.bytes.ListLemmas.{length-ones, one-nonzero, ones-nonzero}
use Rattle.cobs.specs.Internal.Reaches.{Opened}

-- the values of the nonzero bytes at the start of a message don't matter
pub same_start : (a b t : List ℕ) → HasNoZero a → HasNoZero b → length a ≡ length b → encoded_len (a ++ t) ≡ encoded_len (b ++ t)
same_start a b t na nb e = grind (arith, stretches-front, length-append)

-- nonzero bytes join the open block
pub open_len-join : (code : ℕ) (more t : List ℕ) → 0 < code → HasNoZero more → open_len code (more ++ t) ≡ open_len (code + length more) t
open_len-join code more t some nonzero =
    -- `front` has the ones that stand for the open block's bytes; `both`: these ones and the bytes `more` have no zero
    let front : List ℕ = replicate (code - 1) 1 in
    let both = All-append (λ byte. byte ≢ 0) front more (ones-nonzero (code - 1)) nonzero in
    grind (arith, append_assoc, same_start, ones-nonzero, length-append, length-ones)

-- the next k bytes of a source join the open block, if none of them is a zero
pub open_len-run : (source : List ℕ) (read k code : ℕ) → 0 < code → read + k ≤ length source → HasNoZero (take k (drop read source))
    → open_len code (drop read source) ≡ open_len (code + k) (drop (read + k) source)
open_len-run source read k code some within nonzero =
    grind (arith, drop-drop, length-take-le, length-drop, open_len-join, take-append-drop k (drop read source))

-- a full block is closed if more bytes follow
pub open_len-full : (t : List ℕ) → t ≢ [] → open_len 255 t ≡ 255 + open_len 1 t
open_len-full t more = encoded_len-full (replicate 254 1) t (length-ones 254) (ones-nonzero 254) more

-- a zero closes the open block. If `code` is 255 or greater, the run before the zero fills one or more blocks first,
-- and the zero closes the block after them.
pub open_len-zero : (code : ℕ) (t : List ℕ) → 0 < code → open_len code (0 ∷ t) ≡ code + (code - 1) / 254 + open_len 1 t
open_len-zero code t some = grind (arith, length-ones, encoded_len-run, ones-nonzero)

-- if no byte follows, the frame of the open block's bytes has the greatest length, because these bytes contain no zero
pub open_len-end : (code : ℕ) → open_len code [] ≡ max_encoded_len (code - 1)
open_len-end code = grind (arith, append-nil, length-ones, encoded_len-nonzero, ones-nonzero)

-- each byte of the message adds at least one byte to the frame
pub open_len-least : (code : ℕ) (t : List ℕ) → 0 < code → code + length t ≤ open_len code t
open_len-least code t some = grind (arith, length-append, length-ones)

-- no frame is longer than `max_encoded_len` says
pub open_len-most : (code : ℕ) (t : List ℕ) → 0 < code → open_len code t ≤ max_encoded_len (code - 1 + length t)
open_len-most code t some = grind (arith, length-append, length-ones, encoded_len-le)

-- the length of the frame of m and the bytes t, counted from the open block of m; if the frame of m ends in a full
-- block, t must not be empty
pub Opened-len : {slice m : List ℕ} {index next : ℕ} {full : Bool} (t : List ℕ) → (full ≡ true → t ≢ []) → Opened slice m index next full
    → encoded_len (m ++ t) ≡ index + open_len (next - index) t
Opened-len t more o =
    let code : ℕ = length o.bytes + 1 in
    -- `longer`: m followed by t is the message of the same blocks after t is appended to the last block
    let longer = message_of-more o.front code code o.bytes t in
    grind (arith, length-ones, len-blocks o.front code (o.bytes ++ t) o.each, same_start, ones-nonzero)

-- `open_len` for the bytes of a source from index i on, as a loop over the source counts it
module _ (bytes : List ℕ) (i : ℕ) where
  -- no byte of the source is left
  pub len-end : (code : ℕ) → length bytes ≤ i → open_len code (drop i bytes) ≡ max_encoded_len (code - 1)
  len-end code last = grind (arith, drop_all, open_len-end)

  module _ (more : i < length bytes) where
    -- if bytes are left, a full block is closed
    pub len-full : (code : ℕ) → code ≡ 255 → open_len code (drop i bytes) ≡ 255 + open_len 1 (drop i bytes)
    len-full code is = grind (arith, open_len-full, length-drop)

    -- a nonzero byte at index i joins the open block
    pub len-byte : (code : ℕ) → 0 < code → get_or bytes i 0 ≢ 0 → open_len code (drop i bytes) ≡ open_len (code + 1) (drop (i + 1) bytes)
    len-byte code some other =
        rw (drop_more bytes i 0 more) (open_len-join code (get_or bytes i 0 ∷ []) _ some (one-nonzero _ other))

    -- a zero at index i closes the open block
    pub len-zero : (code : ℕ) → 0 < code → get_or bytes i 0 ≡ 0 → open_len code (drop i bytes) ≡ code + (code - 1) / 254 + open_len 1 (drop (i + 1) bytes)
    len-zero code some is = grind (arith, drop_more, open_len-zero)
