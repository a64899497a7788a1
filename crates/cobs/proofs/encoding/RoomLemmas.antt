-- Lemmas on the length of the frame from its open block on. `encoded_len-longer` says that a frame doesn't get shorter
-- if bytes are appended to its message.
use Rattle.std.proofs.Common.{◌≡◌, ◌≢◌, ℕ, ◌+◌, ◌<◌, ◌≤◌, List, [], ◌∷◌, ◌++◌, arith}
use Rattle.cobs.specs.Length.{encoded_len, open_len}
use Rattle.cobs.proofs.encoding.OpenLenLemmas.{open_len-end, open_len-join, open_len-least, open_len-most, open_len-zero}
use Rattle.cobs.proofs.bytes.ListLemmas.{one-nonzero}

-- the rule set for the tactics of `has_room`
pub ruleset counted = (open_len-least, open_len-most)

-- a byte that isn't a zero joins the open block
open_len-byte : (code b : ℕ) (t : List ℕ) → 0 < code → b ≢ 0 → open_len code (b ∷ t) ≡ open_len (code + 1) t
open_len-byte code b t some other = open_len-join code (b ∷ []) t some (one-nonzero b other)

-- more bytes after a message don't make its frame shorter
open_len-longer : (code : ℕ) (m d : List ℕ) → 0 < code → open_len code m ≤ open_len code (m ++ d)
open_len-longer code [] [] some = omega arith
open_len-longer code [] (b ∷ d) some = grind (arith, open_len-end, open_len-zero, open_len-byte, open_len-longer (code + 1) [] d)
open_len-longer code (b ∷ m) d some = grind (arith, open_len-zero, open_len-byte, open_len-longer 1 m d, open_len-longer (code + 1) m d)

-- the encoded frame of a message isn't shorter after bytes are appended to the message
pub encoded_len-longer : (m d : List ℕ) → encoded_len m ≤ encoded_len (m ++ d)
encoded_len-longer m d = open_len-longer 1 m d (omega arith)
