-- `feed_piece`, byte by byte: `TakesPiece` holds before the first byte (`piece-nothing`). A byte that ends no piece
-- preserves it (`piece-more`), and a zero that ends a piece ends the call (`piece-ended`). The outcomes are by
-- `takes-more` and `TakesBytes-byte` of `SoFar`, and the bytes of the buffer by `LastPiece`.
use Rattle.std.proofs.Common.{◌≡◌, ◌≢◌, ℕ, ◌+◌, ◌<◌, ◌≤◌, List, [], ◌∷◌, ◌++◌, length, take, drop, get_or, Option, Some, None, Result, refl, ◌∙◌, arith, append_assoc, inl, inr, IfOk, IfSome}
use Rattle.std.proofs.lemmas.Bool.{cases_eq, eq-eqb, ne_eqb}
use Rattle.std.proofs.lemmas.List.{append-nil, take_more}
use Rattle.cobs.specs.Feed.{Phase, PhaseAfter, DecoderAfter, Feeds}
use Rattle.cobs.specs.FeedPiece.{AreAlikeAtFirst, IsWithin, TakesBytes, TakesPiece, end_reported, outcome_at}
use Rattle.cobs.specs.Stream.{Outcome, unended, stream_outcomes}
use Rattle.cobs.specs.Push.{last_piece}
use Rattle.cobs.specs.Overwritten.{overwritten}
use Rattle.cobs.specs.Piece.{output}
use Rattle.cobs.specs.declared.error.DecodeError.{DecodeError}
use Rattle.cobs.specs.declared.dec.frame_decoder.PieceEnd.{PieceEnd}
use Rattle.cobs.proofs.format.StreamLemmas.{fed-nonzero, unended-push, unended-no_zero, ended_pieces-no_zero}
use Rattle.cobs.proofs.streaming.LastPiece.{overwritten-is, output-longer, last_piece-unended, last_piece-zero, ended_pieces-nonzero}
use Rattle.cobs.proofs.streaming.SoFar.{takes-nothing, takes-more, TakesBytes-byte, outcome_reported, reported_by, count-within, no_outcomes}
use Rattle.cobs.proofs.bytes.ListLemmas.{drop-later}

-- THE RESULT FOR A ZERO

-- if the result for a zero reports the end of a piece, it means the outcome of this end, and a reported message fits
-- the buffer
stated-some : (result : Result (Option ℕ) DecodeError) (buffer : List ℕ) (end : PieceEnd) → end_reported result ≡ Some end → IfOk result (λ found. IfSome found (λ n. n ≤ length buffer))
    → (outcome_reported result buffer ≡ outcome_at end buffer ∷ []) × IsWithin (length buffer) end
stated-some result buffer end e bound = grind arith

-- if a list of outcomes is alike to the empty list, it is empty
nil_alike : (xs : List Outcome) → AreAlikeAtFirst [] xs → xs ≡ []
nil_alike xs h = grind arith

-- THE BYTES SO FAR

-- before the first byte, `TakesPiece` holds, and nothing has changed
pub piece-nothing : (buffer : List ℕ) (phase : Phase) → TakesPiece buffer phase [] None buffer phase
-- no piece has ended, so the fields about the end of a piece say nothing (`tt`)
piece-nothing buffer phase = record {
  takes = takes-nothing buffer phase;
  ends = tt;
  -- the last piece is p (`last`), and the buffer begins with the output of p
  holds = λ p h. overwritten-is _ buffer buffer refl (rw (last p h.phased) h.begins) refl;
  untouched = λ p h. refl;
  bound = λ p h. tt;
  idle = tt;
  within = tt;
}
  where
    -- the last piece is the front p that was fed before
    last : (p : List ℕ) → PhaseAfter (length buffer) phase p → last_piece (p ++ []) ≡ p
    last p h = grind (arith, append-nil, last_piece-unended, ended_pieces-no_zero, unended-no_zero)

-- no piece ended in the first i bytes, and then the byte at index i is fed
module _ {buffer₀ buffer buffer' : List ℕ} {phase₀ phase phase' : Phase} {result : Result (Option ℕ) DecodeError} (bytes : List ℕ) (i : ℕ) (inside : i < length bytes)
    (t : TakesPiece buffer₀ phase₀ (take i bytes) None buffer phase) (f : Feeds buffer phase (get_or bytes i 0) result buffer' phase') where
  -- p is the front of a piece that had been fed before the first byte
  module _ (p : List ℕ) (h : PhaseAfter (length buffer₀) phase₀ p) where
    -- the stream has no outcome before the byte at index i
    pub none_before : stream_outcomes (p ++ take i bytes) (length buffer₀) ≡ []
    none_before = nil_alike _ (t.takes.alike p h)

    -- the stream with this byte
    stream_on : p ++ take (i + 1) bytes ≡ (p ++ take i bytes) ++ get_or bytes i 0 ∷ []
    stream_on = grind (arith, take_more, append_assoc, get_or)

    -- if this byte is a zero, the last piece is the unended bytes before it
    last_zero : get_or bytes i 0 ≡ 0 → last_piece (p ++ take (i + 1) bytes) ≡ unended (p ++ take i bytes)
    last_zero z = grind (arith, stream_on, last_piece-zero, no_outcomes, none_before)

    -- if this byte isn't a zero, the last piece is the unended bytes before it, and this byte
    last_nonzero : get_or bytes i 0 ≢ 0 → last_piece (p ++ take (i + 1) bytes) ≡ unended (p ++ take i bytes) ++ get_or bytes i 0 ∷ []
    last_nonzero nz = grind (arith, stream_on, last_piece-unended, get_or, ended_pieces-nonzero, no_outcomes, none_before, unended-push, fed-nonzero)

    -- before this byte, the bytes of the buffer after the output of the unended bytes are as they were
    left_so_far : drop (length (output (unended (p ++ take i bytes)))) buffer ≡ drop (length (output (unended (p ++ take i bytes)))) buffer₀
    left_so_far = grind (arith, last_piece-unended, no_outcomes, none_before)

    -- after this byte, the bytes of the buffer after the output of the last piece are as they were
    pub untouched_behind : drop (length (output (last_piece (p ++ take (i + 1) bytes)))) buffer' ≡ drop (length (output (last_piece (p ++ take (i + 1) bytes)))) buffer₀
    untouched_behind = elim (cases_eq (get_or bytes i 0) 0) [
      -- a zero changes nothing in the buffer; any other byte may change only bytes of the output
      | inl z ↦ grind (arith, last_zero, left_so_far)
      -- this byte changes nothing after the output with it (`untouched`), which is no shorter than the output before
      | inr nz ↦ rw (last_nonzero nz) (f.untouched _ (grind arith) nz ∙ drop-later _ _ _ _ (output-longer _ (get_or bytes i 0)) left_so_far)
    ]

  -- the buffer begins with the output of the last piece, or with as much of it as fits
  begins_behind : (p : List ℕ) → DecoderAfter buffer₀ phase₀ p
      → take (length (output (last_piece (p ++ take (i + 1) bytes)))) buffer' ≡ take (length buffer') (output (last_piece (p ++ take (i + 1) bytes)))
  begins_behind p h = elim (cases_eq (get_or bytes i 0) 0) [
    -- a zero changes neither the buffer nor the last piece
    | inl z ↦ grind (arith, last_zero)
    -- the decoder has then been fed the unended bytes and this byte, so the buffer begins with their output
    | inr nz ↦ rw (last_nonzero p h.phased nz) (rw (fed-nonzero _ _ nz) at (f.after _ (t.takes.after p h))).begins
  ]

  -- so the buffer is the first buffer, overwritten with the output of the last piece
  pub holds_behind : (p : List ℕ) → DecoderAfter buffer₀ phase₀ p → buffer' ≡ overwritten buffer₀ (output (last_piece (p ++ take (i + 1) bytes)))
  holds_behind p h = grind (arith, overwritten-is, begins_behind, untouched_behind)

  -- the first i + 1 bytes are fed; their only outcome is the one that this byte reports, if it reports one
  pub takes_behind : TakesBytes buffer₀ phase₀ (take (i + 1) bytes) (reported_by (get_or bytes i 0) result buffer') buffer' phase'
  -- the first i bytes, and then one byte more (`TakesBytes-byte`)
  takes_behind = rw (take_more bytes i 0 inside) (takes-more t.takes (TakesBytes-byte f))

  -- if this byte ends no piece, no piece has ended in the first i + 1 bytes
  pub piece-more : (get_or bytes i 0 ≡ 0 → end_reported result ≡ None) → TakesPiece buffer₀ phase₀ (take (i + 1) bytes) None buffer' phase'
  -- the fields about the end of a piece say nothing here either
  piece-more none = record {
    takes = rw nothing at takes_behind;
    ends = tt;
    holds = holds_behind;
    untouched = untouched_behind;
    bound = λ p h. tt;
    idle = tt;
    within = tt;
  }
    where
      -- this byte reports no outcome
      nothing : reported_by (get_or bytes i 0) result buffer' ≡ []
      nothing = grind (arith, eq-eqb, ne_eqb)

  -- if this byte is a zero that ends a piece, `feed_piece` of all the bytes stops after it and reports this end
  pub piece-ended : (end : PieceEnd) → get_or bytes i 0 ≡ 0 → end_reported result ≡ Some end → TakesPiece buffer₀ phase₀ bytes (Some (end, i + 1)) buffer' phase'
  piece-ended end z is =
      let e = stated-some result buffer' end is (rw f.len f.bound) in
      -- the zero reports the outcome of this end; a reported message fits the buffer (`fits`)
      let stated : reported_by (get_or bytes i 0) result buffer' ≡ outcome_at end buffer' ∷ [] = rw (eq-eqb _ 0 z) e.0 in
      let takes = rw stated at takes_behind in
      let fits = rw (f.len ∙ t.takes.len) at e.1 in
      record {
        takes = takes;
        -- the bytes before the zero, in which no piece has ended
        ends = record {
          front = take i bytes;
          taken = grind (arith, take_more);
          none_before = none_before;
        };
        holds = holds_behind;
        untouched = untouched_behind;
        bound = λ p h. count-within end buffer' _ _ (takes.alike p h) fits;
        idle = f.zero_idle z;
        within = (omega arith, fits);
      }
