-- The outcomes of a stream after `feed_piece` has taken its first piece. A piece that was taken ends with a zero, and
-- after a zero no byte is unended. So the outcomes of the rest of the stream don't depend on the piece
-- (`reported_first`, by `stream_outcomes-append`), and neither do the unended bytes of the stream (`left_behind`).
use Rattle.std.proofs.Common.{arith, ◌≡◌, ℕ, List, [], ◌∷◌, ◌++◌, length, take, drop, sym, Some}
use Rattle.std.proofs.lemmas.List.{take-append-drop}
use Rattle.cobs.specs.Feed.{Phase, Idle}
use Rattle.cobs.specs.FeedPiece.{TakesPiece, outcome_at}
use Rattle.cobs.specs.Stream.{stream_outcomes, unended}
use Rattle.cobs.specs.declared.dec.frame_decoder.PieceEnd.{PieceEnd}
use Rattle.cobs.proofs.format.StreamLemmas.{stream_outcomes-append, unended-append, unended-zero}
use Rattle.cobs.proofs.streaming.FeedLemmas.{DecoderAfter-idle}
use Rattle.cobs.proofs.laws.coders.law_21.Goals as goal

-- `feed_piece` of these bytes has ended a piece after `count` bytes
module _ {buffer buffer' : List ℕ} {phase phase' : Phase} {end : PieceEnd} {count : ℕ} (bytes : List ℕ) (t : TakesPiece buffer phase bytes (Some (end, count)) buffer' phase') where
  -- the bytes that were taken, and the bytes after them
  cut : bytes ≡ take count bytes ++ drop count bytes
  cut = sym (take-append-drop count bytes)

  -- the unended bytes of all bytes are those of the bytes after the piece
  left_behind : unended bytes ≡ unended (drop count bytes)
  left_behind = grind (arith, cut, unended-zero, unended-append)

  -- the first outcome is the one that the call reported, and the others are those of the bytes after the piece
  reported_first : phase ≡ Idle → stream_outcomes bytes (length buffer) ≡ outcome_at end buffer' ∷ stream_outcomes (drop count bytes) (length buffer)
  reported_first idle =
      let first = t.takes.outcomes [] (DecoderAfter-idle buffer phase idle) in
      grind (arith, cut, unended-zero, stream_outcomes-append)

-- `none` and `after` hold because the bytes without an ended piece were all taken
pub returns : goal.returns
returns c = record {
  outcomes = grind (arith, reported_first);
  left = grind (arith, left_behind);
  none = λ buffer buffer' bytes phase phase' t idle. sym (t.takes.outcomes [] (DecoderAfter-idle buffer phase idle));
  after = λ buffer buffer' bytes phase phase' t idle. t.takes.after [] (DecoderAfter-idle buffer phase idle);
}
