-- The last piece of a stream, and its output: lemmas for the fields `holds` and `untouched` of `PushesBytes` and
-- `TakesPiece`. As long as no piece has ended, the last piece is the unended bytes (`last_piece-unended`); after a zero
-- it is the piece that the zero ends (`last_piece-zero`). Bytes that are appended to a piece only append bytes to its
-- output (`output-begins`). By `StreamLemmas` and `output-push`.
use Rattle.std.proofs.Common.{◌≡◌, ◌≢◌, ℕ, ◌<◌, ◌≤◌, List, [], ◌∷◌, ◌++◌, length, take, drop, filter, refl, ap, ◌∙◌, arith, append_assoc, length-append, take_at}
use Rattle.std.proofs.lemmas.List.{append-nil, take-append-drop}
use Rattle.std.proofs.lemmas.List.Elements.{filter-append}
use Rattle.cobs.specs.Grammar.{last_of}
use Rattle.cobs.specs.Piece.{output, parts, parts_after}
use Rattle.cobs.specs.Stream.{stretches, is_nonempty, but_last, ended_pieces, unended}
use Rattle.cobs.specs.Overwritten.{overwritten}
use Rattle.cobs.specs.Push.{last_piece}
use Rattle.cobs.proofs.decoding.PieceLemmas.{output-push}
use Rattle.cobs.proofs.format.StreamLemmas.{fed-nonzero, length-stretches, ended_pieces-append, stretches-piece, ended_pieces-no_zero, unended-push, unended_no_zero, unended-zero}

-- THE LAST PIECE OF A STREAM

-- a nonempty list of lists consists of all lists but the last one, and the last one
all_but_last : (xs : List (List ℕ)) → 0 < length xs → xs ≡ but_last xs ++ last_of xs ∷ []
unfolding but_last
all_but_last [] h = grind arith
all_but_last (x ∷ []) h = refl
all_but_last (x ∷ y ∷ xs) h = grind (arith, all_but_last (y ∷ xs) (omega arith))

-- the pieces of a stream are those that have ended, and the unended bytes if there are any
pieces : (t : List ℕ) → filter is_nonempty (stretches t) ≡ ended_pieces t ++ filter is_nonempty (unended t ∷ [])
unfolding ended_pieces unended
pieces t = ap (filter is_nonempty) (all_but_last (stretches t) (length-stretches t)) ∙ filter-append is_nonempty (but_last (stretches t)) (last_of (stretches t) ∷ [])

-- if no piece has ended in t, the last piece of t is its unended bytes
pub last_piece-unended : (t : List ℕ) → ended_pieces t ≡ [] → last_piece t ≡ unended t
unfolding last_piece
last_piece-unended t none = grind (arith, pieces, filter)

-- the pieces that have ended after one more zero: those of t, and the unended bytes of t if there are any
ended_pieces-zero : (t : List ℕ) → ended_pieces (t ++ 0 ∷ []) ≡ ended_pieces t ++ filter is_nonempty (unended t ∷ [])
unfolding ended_pieces but_last
ended_pieces-zero t = grind (arith, ended_pieces-append, stretches-piece, unended_no_zero)

-- one more nonzero byte ends no piece
pub ended_pieces-nonzero : (t : List ℕ) (b : ℕ) → b ≢ 0 → ended_pieces (t ++ b ∷ []) ≡ ended_pieces t
ended_pieces-nonzero t b h =
    -- the new byte joins the unended bytes, and none of these is a zero
    let none = rw (unended-push t b, fed-nonzero (unended t) b h) at (unended_no_zero (t ++ b ∷ [])) in
    grind (arith, ended_pieces-append, ended_pieces-no_zero, append-nil)

-- if no piece has ended in t, the last piece of t and a zero is the piece that this zero ends
pub last_piece-zero : (t : List ℕ) → ended_pieces t ≡ [] → last_piece (t ++ 0 ∷ []) ≡ unended t
unfolding last_piece
last_piece-zero t none = grind (arith, pieces, unended-zero, append-nil, ended_pieces-zero)

-- THE OUTPUT OF A PIECE TO WHICH BYTES ARE APPENDED, AND THE BUFFER TO WHICH AN OUTPUT IS WRITTEN

-- if bytes are appended to a piece, its output is the output of the piece before, and then more bytes
output-end : (p tail : List ℕ) → (more : List ℕ) × (output (p ++ tail) ≡ output p ++ more)
unfolding output parts parts_after
output-end [] tail = (output tail, refl)
output-end (c ∷ p) [] = grind (arith, append-nil)
output-end (c ∷ p) (x ∷ tail) =
    -- the first appended byte adds `one.0` to the output (`output-push`), and the other bytes add `rest.0`
    let one = output-push c p x in
    let rest = output-end (c ∷ p ++ x ∷ []) tail in
    (one.0 ++ rest.0, cc (append_assoc (c ∷ p) (x ∷ []) tail, append_assoc (output (c ∷ p)) one.0 rest.0))

-- bytes that are appended to a piece don't make its output shorter
pub output-grows : (p tail : List ℕ) → length (output p) ≤ length (output (p ++ tail))
output-grows p tail = let e = output-end p tail in omega (arith, ap length e.1, length-append (output p) e.0)

-- one byte that is appended to a piece doesn't make its output shorter
pub output-longer : (p : List ℕ) (b : ℕ) → length (output p) ≤ length (output (p ++ b ∷ []))
output-longer p b = output-grows p (b ∷ [])

-- the output of a piece begins with the output of its front p
pub output-begins : (p tail : List ℕ) → take (length (output p)) (output (p ++ tail)) ≡ output p
output-begins p tail = let e = output-end p tail in rw e.1 (grind (arith, take_at))

-- `buffer'` is `overwritten buffer written` if it is as long as `buffer`, begins with `written` (or as much of it as
-- fits), and has the other bytes of `buffer`
pub overwritten-is : (written buffer buffer' : List ℕ) → length buffer' ≡ length buffer → take (length written) buffer' ≡ take (length buffer') written → drop (length written) buffer' ≡ drop (length written) buffer
    → buffer' ≡ overwritten buffer written
overwritten-is written buffer buffer' len begins rest = grind (arith, take-append-drop, len)
