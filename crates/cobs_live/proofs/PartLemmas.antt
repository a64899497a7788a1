-- Lemmas on the pieces that have ended in a stream (`all_ended`), and on the bytes of the last piece in the decoder's
-- buffer. The main lemma, `IsLastPiece-taken`, is about the piece whose end `feed_piece` has reported: it says which
-- piece this is, and how it is shown. `one_ended` finds this piece, and `seen-held` finds its bytes in the buffer.
use Rattle.std.proofs.Common.{◌≡◌, ◌≤◌, ◌<◌, nat_le, ℕ, Bool, true, false, List, [], ◌∷◌, ◌++◌, length, take, map, min, refl, sym, ap, ◌∙◌, arith, append_assoc, append-nil, length-append, length-take, Option, Some, None}
use Rattle.std.proofs.Math.ListN.{drop_of_length-le}
use Rattle.std.proofs.Math.Seq.{take-append_seam}
use Rattle.std.proofs.lemmas.Bool.{cases_Bool, leb-true, leb-false}
use Rattle.std.proofs.lemmas.List.{length-map, map-append, nil_from_length}
use Rattle.cobs.specs.Feed.{DecoderAfter, Phase}
use Rattle.cobs.specs.FeedPiece.{TakesPiece, outcome_at}
use Rattle.cobs.specs.Grammar.{HasNoZero}
use Rattle.cobs.specs.Laws.{StreamLaw}
use Rattle.cobs.specs.Overwritten.{overwritten}
use Rattle.cobs.specs.Piece.{output}
use Rattle.cobs.specs.Push.{last_piece}
use Rattle.cobs.specs.Stream.{Outcome, Broken as OfBroken, TooLong as OfTooLong, but_last, ended_pieces, outcome_of, stream_outcomes, unended}
use Rattle.cobs.specs.declared.PieceEnd.{PieceEnd}
use Rattle.cobs.specs.declared.PieceEnd.TheVariants as ends
use Rattle.cobs_live.specs.Seen.{Ended, Seen, all_ended, ended_in, held, seen_message, seen_of, seen_piece, with_part}
use Rattle.cobs_live.specs.declared.checksum.Checksum.{Checksum}

-- THE PIECES THAT HAVE ENDED

-- the pieces that have ended in two parts of a stream are those of the first part, and then those of its unended bytes
-- and the second part
pub all_ended-append : (law : StreamLaw) (t u : List ℕ) (n : ℕ) → all_ended (t ++ u) n ≡ all_ended t n ++ all_ended (unended t ++ u) n
unfolding all_ended
all_ended-append law t u n = grind (arith, map-append)

-- there is one outcome for each piece
pub length-all_ended : (t : List ℕ) (n : ℕ) → length (all_ended t n) ≡ length (stream_outcomes t n)
unfolding all_ended stream_outcomes
length-all_ended t n = grind (arith, length-map)

-- if a stream has no outcome, no piece has ended in it
pub all_ended-none : (t : List ℕ) (n : ℕ) → stream_outcomes t n ≡ [] → all_ended t n ≡ []
all_ended-none t n none = nil_from_length (all_ended t n) (length-all_ended t n ∙ ap length none)

-- THE PIECE THAT A ZERO ENDS

-- if the stream is the bytes q and a zero, q is the piece that has ended
one_piece : (law : StreamLaw) (q : List ℕ) (n : ℕ) (outcome : Outcome) → HasNoZero q → outcome ∷ [] ≡ stream_outcomes (q ++ 0 ∷ []) n → (all_ended (q ++ 0 ∷ []) n ≡ ended_in n q ∷ []) × (outcome ≡ outcome_of q n)
unfolding all_ended stream_outcomes ended_pieces but_last
one_piece law [] n outcome h reported = absurd cc
one_piece law (b ∷ q) n outcome h reported =
    -- q and a zero are one piece, so its outcome is the only outcome
    let one = law.piece (b ∷ q) (λ none. cc) h in
    (ap (map (ended_in n)) one, let same = reported ∙ ap (map (λ p. outcome_of p n)) one in cc)

-- if no piece has ended in t, a zero after t ends the piece that consists of the unended bytes of t
one_ended : (law : StreamLaw) (t : List ℕ) (n : ℕ) (outcome : Outcome) → stream_outcomes t n ≡ [] → outcome ∷ [] ≡ stream_outcomes (t ++ 0 ∷ []) n → (all_ended (t ++ 0 ∷ []) n ≡ ended_in n (unended t) ∷ []) × (outcome ≡ outcome_of (unended t) n)
one_ended law t n outcome none reported =
    -- the pieces after the zero are those of the unended bytes of t and the zero, which are one piece (`one`)
    let behind = all_ended-append law t (0 ∷ []) n ∙ ap (λ (z : List Ended). z ++ all_ended (unended t ++ 0 ∷ []) n) (all_ended-none t n none) in
    let one = one_piece law (unended t) n outcome (law.begun t) (reported ∙ law.cut t (0 ∷ []) n ∙ ap (λ (z : List Outcome). z ++ stream_outcomes (unended t ++ 0 ∷ []) n) none) in
    (behind ∙ one.0, one.1)

-- THE BYTES OF THAT PIECE IN THE BUFFER

-- if the outcome of a piece q is `Broken` with the number `count`, `count` is the length of the output of q, and the
-- output fits the buffer
broken-fits : (q : List ℕ) (n count : ℕ) → OfBroken count ≡ outcome_of q n → (count ≡ length (output q)) × (length (output q) ≤ n)
unfolding outcome_of
broken-fits q n count e = grind (arith, cases_Bool, leb-true)

-- if the outcome of a piece q is `TooLong`, the output of q is longer than the buffer
too_long-exceeds : (q : List ℕ) (n : ℕ) → OfTooLong ≡ outcome_of q n → n < length (output q)
unfolding outcome_of
too_long-exceeds q n e = grind (arith, nat_le, leb-false, cases_Bool)

-- if `out` fits the buffer and was written to its front, the bytes that `held` takes for a broken piece are `out`
held-broken : (out buffer : List ℕ) → length out ≤ length buffer → take (min (length out) (length (overwritten buffer out))) (overwritten buffer out) ≡ take (length buffer) out
held-broken out buffer fits = grind (arith, length-append, length-take, take-append_seam)

-- if `out` doesn't fit the buffer, the buffer is filled with the first bytes of `out`
held-too_long : (out buffer : List ℕ) → length buffer < length out → overwritten buffer out ≡ take (length buffer) out
held-too_long out buffer more = grind (arith, drop_of_length-le, append-nil)

-- for a message, `with_part` shows the bytes of the message only, whatever decoded bytes d or e are passed
message-alone : (checksum : Option Checksum) (message d e : List ℕ) → with_part true (seen_message checksum message) d ≡ with_part true (seen_message checksum message) e
message-alone None message d e = refl
message-alone (Some c) message d e = grind arith

-- if the output of the piece q was written to the buffer, and `end` is the end of q, then the bytes that are shown from
-- the buffer are those of `seen_piece`
seen-held : (checksum : Option Checksum) (partial : Bool) (q buffer buffer' : List ℕ) (end : PieceEnd) → buffer' ≡ overwritten buffer (output q) → outcome_at end buffer' ≡ outcome_of q (length buffer)
    → (seen : Seen) → seen ≡ seen_of checksum (outcome_at end buffer') → with_part partial seen (held seen.kind seen.len buffer') ≡ seen_piece checksum partial (ended_in (length buffer) q)
seen-held checksum false q buffer buffer' end holds same seen is = grind arith
seen-held checksum true q buffer buffer' (ends.Message k) holds same seen is = grind (arith, message-alone)
seen-held checksum true q buffer buffer' (ends.Broken count) holds same seen is = grind (arith, broken-fits, held-broken)
seen-held checksum true q buffer buffer' ends.TooLong holds same seen is = grind (arith, held-too_long, too_long-exceeds)

-- exactly one piece has ended in the stream, and it is shown as `seen`
pub record IsLastPiece (checksum : Option Checksum) (partial : Bool) (stream : List ℕ) (n : ℕ) (seen : Seen) : Type 0 where
  pub piece : Ended
  pub ended : all_ended stream n ≡ piece ∷ []
  pub seen_so : seen ≡ seen_piece checksum partial piece

-- the piece whose end `feed_piece` has reported is the only piece that has ended in p (the front of a piece that had
-- been fed before) and the consumed bytes
pub IsLastPiece-taken : StreamLaw → ((t : List ℕ) (n : ℕ) → stream_outcomes t n ≡ [] → last_piece (t ++ 0 ∷ []) ≡ unended t) → {buffer bytes buffer' : List ℕ} {phase phase' : Phase} {end : PieceEnd} {count : ℕ} (h : TakesPiece buffer phase bytes (Some (end, count)) buffer' phase') (p : List ℕ) → DecoderAfter buffer phase p → (checksum : Option Checksum) (partial : Bool) (seen : Seen)
    → seen ≡ seen_of checksum (outcome_at end buffer') → IsLastPiece checksum partial (p ++ take count bytes) (length buffer) (with_part partial seen (held seen.kind seen.len buffer'))
IsLastPiece-taken law last_ended {buffer} {bytes} {buffer'} {phase} {phase'} {end} {count} h p d checksum partial seen is =
    let n : ℕ = length buffer in
    -- the consumed bytes without the zero; with this zero, they are the stream (`cut`), and no piece has ended before
    -- the zero (`none`)
    let front : List ℕ = h.ends.front in
    let cut : p ++ take count bytes ≡ (p ++ front) ++ 0 ∷ [] = ap (λ (l : List ℕ). p ++ l) h.ends.taken ∙ sym (append_assoc p front (0 ∷ [])) in
    let none : stream_outcomes (p ++ front) n ≡ [] = h.ends.none_before p d.phased in
    -- q is the piece that the zero ends (`one`); it is also the last piece of the stream (`last`), so the buffer has
    -- its output (`holds`)
    let q : List ℕ = unended (p ++ front) in
    let one = one_ended law (p ++ front) n (outcome_at end buffer') none (h.takes.outcomes p d ∙ ap (λ (l : List ℕ). stream_outcomes l n) cut) in
    let last : last_piece (p ++ take count bytes) ≡ q = ap last_piece cut ∙ last_ended (p ++ front) n none in
    let holds : buffer' ≡ overwritten buffer (output q) = h.holds p d ∙ ap (λ (l : List ℕ). overwritten buffer (output l)) last in
    record {
      piece = ended_in n q;
      ended = ap (λ (l : List ℕ). all_ended l n) cut ∙ one.0;
      seen_so = seen-held checksum partial q buffer buffer' end holds one.1 seen is;
    }
