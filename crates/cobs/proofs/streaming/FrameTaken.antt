-- A streaming decoder that is fed a frame of m and a zero returns m; and if it returns a message, the bytes before the
-- zero are a frame of this message. The lemmas `fed-reads` and `fed-only` say this of `feed` of the zero, and
-- `taken-reads` and `taken-only` of `feed_piece`. By `outcome_frame` and `outcome_message`: the outcome of a piece is
-- the message m if and only if the piece is a frame of m, and m fits the buffer.
use Rattle.std.proofs.Common.{◌≡◌, ◌≢◌, ℕ, ◌+◌, ◌<◌, ◌≤◌, List, [], ◌∷◌, ◌++◌, length, take, All, Option, Some, None, Result, Ok, refl, sym, ap, ◌∙◌, arith, length-append, length-take-le, take_all, take_at}
use Rattle.std.proofs.lemmas.List.{take-take}
use Rattle.cobs.specs.Grammar.{Reads}
use Rattle.cobs.specs.Stream.{Message, outcome_of, stream_outcomes}
use Rattle.cobs.specs.Feed.{Phase, Idle, DecoderAfter, Feeds, result_at_end, result_for, fed_result}
use Rattle.cobs.specs.FeedPiece.{IsWithin, TakesPiece, outcome_at}
use Rattle.cobs.specs.Headline.{IsPiece}
use Rattle.cobs.specs.declared.error.DecodeError.{DecodeError}
use Rattle.cobs.specs.declared.dec.frame_decoder.PieceEnd.{PieceEnd}
use Rattle.cobs.specs.declared.dec.frame_decoder.PieceEnd.TheVariants as ends
use Rattle.cobs.proofs.format.FrameLemmas.{frame_output}
use Rattle.cobs.proofs.decoding.OutcomeLemmas.{outcome_frame, outcome_message}
use Rattle.cobs.proofs.decoding.ReadsLemmas.{frame_piece}
use Rattle.cobs.proofs.streaming.FeedLemmas.{DecoderAfter-idle}
use Rattle.cobs.proofs.format.StreamLemmas.{outcomes-first, outcomes-none, stream_outcomes-front}

-- A ZERO THAT IS FED

-- if f is a frame of m, and m fits n bytes, the result for the zero after f is the length of m
result_is : (f m : List ℕ) (n : ℕ) → Reads f m → length m ≤ n → result_for f 0 n ≡ Ok (Some (length m))
unfolding result_for result_at_end
result_is [] m n r fits = absurd ((frame_piece r).0 refl)
result_is (b ∷ f) m n r fits = ap fed_result (outcome_frame (b ∷ f) m n r fits)

-- if the result for the zero after f is a length, f isn't empty, the outcome of f is a message, and the result is the
-- length of this message
message_reported : (f : List ℕ) (n k : ℕ) → Ok (Some k) ≡ result_for f 0 n → (m : List ℕ) × (f ≢ []) × (outcome_of f n ≡ Message m) × (k ≡ length m)
unfolding result_for result_at_end
message_reported f n k h = grind arith

-- `feed` of the zero that comes after f; before the zero, the decoder had been fed f
module _ {buffer buffer' f : List ℕ} {phase phase' : Phase} {result : Result (Option ℕ) DecodeError} (w : Feeds buffer phase 0 result buffer' phase') (h : DecoderAfter buffer phase f) where
  -- if f is a frame of m, and m fits, the buffer then begins with m
  bytes_there : (m : List ℕ) → Reads f m → length m ≤ length buffer → take (length m) buffer' ≡ m
  bytes_there m r fits =
      -- m is the output of f (`is`), and before the zero the buffer begins with this output
      let is = frame_output f m r in
      grind (arith, take_all)

  -- if f is a frame of m, and m fits, the result is the length of m, and the buffer then begins with m
  pub fed-reads : (m : List ℕ) → Reads f m → length m ≤ length buffer → (result ≡ Ok (Some (length m))) × (take (length m) buffer' ≡ m)
  fed-reads m r fits = grind (arith, result_is, bytes_there)

  -- if the result is a length, f is a frame of the message at the front of the buffer
  pub fed-only : (n : ℕ) → result ≡ Ok (Some n) → All (λ b. b < 256) f → Reads f (take n buffer')
  fed-only n is below = grind (arith, message_reported, outcome_message, bytes_there)

-- A PIECE THAT IS TAKEN

-- if the end of a piece reports the message m, it reports the length of m, and the buffer begins with m
message_at : (end : PieceEnd) (buffer m : List ℕ) → IsWithin (length buffer) end → outcome_at end buffer ≡ Message m
    → (end ≡ ends.Message (length m)) × (take (length m) buffer ≡ m)
message_at end buffer m within e = grind (arith, length-take-le)

-- an idle decoder gets f, a zero and more bytes by `feed_piece`; f isn't empty and has no zero
module _ (buffer buffer' f more : List ℕ) (phase phase' : Phase) (idle : phase ≡ Idle) (piece : IsPiece f) where
  -- the decoder has been fed no byte of a piece
  after : DecoderAfter buffer phase []
  after = DecoderAfter-idle buffer phase idle

  -- If the call reports the end of a piece, it consumed f and the zero, and reported the outcome of f. No piece ends in
  -- f, so the consumed bytes go beyond f (`first`). No piece ends before the last consumed byte, so they don't go
  -- beyond the zero (`short`).
  ended : (end : PieceEnd) (count : ℕ) → TakesPiece buffer phase (f ++ 0 ∷ more) (Some (end, count)) buffer' phase'
      → (count ≡ length f + 1) × (outcome_at end buffer' ≡ outcome_of f (length buffer))
  ended end count t =
      -- the number of bytes before the zero that ended the piece
      let k = length t.ends.front in
      -- the call consumed these bytes and the zero
      let long : count ≡ k + 1
      = sym (grind (arith, length-take-le)) ∙ ap length t.ends.taken ∙ length-append t.ends.front (0 ∷ []) in
      -- the bytes before that zero are the first k bytes
      let front : t.ends.front ≡ take k (f ++ 0 ∷ more)
      = sym (grind (arith, take_at)) ∙ ap (take k) (sym t.ends.taken) ∙ take-take k count (f ++ 0 ∷ more) (omega arith) in
      let none : stream_outcomes (take k (f ++ 0 ∷ more)) (length buffer) ≡ [] = rw front at (t.ends.none_before [] after.phased) in
      let first = outcomes-first f more (length buffer) count piece.0 piece.1 (outcome_at end buffer') [] (grind (arith, after)) in
      let short = outcomes-none f more (length buffer) k piece.0 piece.1 none in
      grind arith

  -- the call reports the end of a piece, because the zero after f ends one
  not_none : TakesPiece buffer phase (f ++ 0 ∷ more) None buffer' phase' → ⊥
  not_none t = grind (arith, after, stream_outcomes-front)

  -- the call stops after the zero, and reports the outcome of f
  pub taken-piece : (result : Option (PieceEnd × ℕ)) → TakesPiece buffer phase (f ++ 0 ∷ more) result buffer' phase'
      → (end : PieceEnd) × (result ≡ Some (end, length f + 1)) × (outcome_at end buffer' ≡ outcome_of f (length buffer))
  taken-piece None t = absurd (not_none t)
  taken-piece (Some (end, count)) t = grind (arith, ended)

  -- if f is a frame of m, and m fits, the call reports m, and the buffer then begins with m
  pub taken-reads : (result : Option (PieceEnd × ℕ)) → TakesPiece buffer phase (f ++ 0 ∷ more) result buffer' phase' → (m : List ℕ) → Reads f m → length m ≤ length buffer
      → (result ≡ Some (ends.Message (length m), length f + 1)) × (take (length m) buffer' ≡ m)
  taken-reads result t m r fits =
      -- the call reports the outcome of f, which is the message m (`outcome_frame`)
      let (end, is, outcome) = taken-piece result t in
      let within = (rw is at t).within.1 in
      let at = message_at end buffer' m (grind arith) (outcome ∙ outcome_frame f m (length buffer) r fits) in
      (cc, at.1)

  -- if the call reports a message, f is a frame of the message at the front of the buffer
  pub taken-only : (n count : ℕ) → TakesPiece buffer phase (f ++ 0 ∷ more) (Some (ends.Message n, count)) buffer' phase' → All (λ b. b < 256) f → Reads f (take n buffer')
  -- by `ended`, the outcome of f is the message at the front of the buffer
  taken-only n count t below = ((outcome_message f (take n buffer') (length buffer) piece below).0 (sym (ended (ends.Message n) count t).1)).0
