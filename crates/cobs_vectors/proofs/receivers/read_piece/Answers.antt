-- The piece that ends is the piece f that was passed. If the decoder reported a message, f reads as this message
-- (`taken_only` of `law_18`). If f reads as a message that fits, the decoder reported it (`taken` of `law_18`), so
-- every other result means that f reads as no message that fits.
-- `law_18`: Streaming decoders return the message of each frame, and no other message.
use Rattle.std.proofs.Common.{◌≡◌, ◌<◌, ◌≤◌, ◌∙◌, [], List, ℕ, Some, length, take, ap, subst, sym}
use Rattle.std.proofs.lemmas.List.Elements.{All-from_get_or}
use Rattle.cobs.specs.declared.PieceEnd.TheVariants.{Broken, Message, TooLong}
use Rattle.cobs.specs.declared.PieceEnd.{PieceEnd}
use Rattle.cobs_vectors.proofs.Pieces.{held_front, reads_front}
use Rattle.cobs_vectors.proofs.receivers.read_piece.Goals as goal

-- if two results are equal, the ends of the pieces in them are equal
same_end : (x y : PieceEnd × ℕ) → Some x ≡ Some y → x.0 ≡ y.0
same_end x y e = let same : x ≡ y = cc in ap (λ z. z.0) same

-- if two ends are equal messages, their lengths are equal
len_same : (len n : ℕ) → ◌≡◌ {A = PieceEnd} (Message len) (Message n) → len ≡ n
len_same len n e = cc

-- a broken piece isn't a message
not_broken : (count n : ℕ) → ◌≡◌ {A = PieceEnd} (Broken count) (Message n) → ⊥
not_broken count n e = absurd cc

-- a piece that is too long isn't a message
not_too_long : (n : ℕ) → ◌≡◌ {A = PieceEnd} TooLong (Message n) → ⊥
not_too_long n e = absurd cc

-- the decoder reported a message
pub returns-in-Some-Message-default : goal.returns-in-Some-Message-default
returns-in-Some-Message-default g c = λ m.
    let f : List ℕ = c.args.piece.now in
    let buffer : List ℕ = g.D.FrameDecoder.bytes c.feed_piece.new.self in
    -- each byte is below 256, as `taken_only` requires
    let below = All-from_get_or (λ b. b < 256) f 0 (λ i within. (c.type_inv.piece i).fits) in
    -- the contract of `feed_piece`, and the same contract with the reported message for the result (`reported`)
    let takes = rw c.requires.ended at c.feed_piece.ensures.takes in
    let reported = rw (c.requires.ended, c.in-Some-Message-default.field-0-0-is) at c.in-Some-Message-default.ensures.takes in (
      λ begins. (
        reads_front f buffer m c.in-Some-Message-default.len (c.law_18.ensures.taken_only _ _ f [] _ _ _ _ reported c.requires.idle c.requires.piece below) begins,
        subst (λ n. length m ≤ n) takes.takes.len (held_front buffer m _ begins),
      ),
      λ r. let w = c.law_18.ensures.taken _ _ f [] m _ _ _ takes c.requires.idle r.0 r.1 in
          let len = len_same _ _ (rw c.in-Some-Message-default.field-0-0-is at (same_end _ _ (sym c.in-Some-Message-default.is ∙ w.0))) in
          (len, ap (λ n. take n buffer) len ∙ w.1),
    )

-- the decoder reported a broken piece
pub returns-in-Some-Broken-default : goal.returns-in-Some-Broken-default
returns-in-Some-Broken-default g c = λ m. (
  λ none. absurd none,
  λ r. let w = c.law_18.ensures.taken _ _ c.args.piece.now [] m _ _ _ (rw c.requires.ended at c.feed_piece.ensures.takes) c.requires.idle r.0 r.1 in
      not_broken _ _ (rw c.in-Some-Broken-default.field-0-0-is at (same_end _ _ (sym c.in-Some-Broken-default.is ∙ w.0))),
)

-- the decoder reported a piece that is too long
pub returns-in-Some-TooLong-default : goal.returns-in-Some-TooLong-default
returns-in-Some-TooLong-default g c = λ m. (
  λ none. absurd none,
  λ r. let w = c.law_18.ensures.taken _ _ c.args.piece.now [] m _ _ _ (rw c.requires.ended at c.feed_piece.ensures.takes) c.requires.idle r.0 r.1 in
      not_too_long _ (rw c.in-Some-TooLong-default.field-0-0-is at (same_end _ _ (sym c.in-Some-TooLong-default.is ∙ w.0))),
)

-- the decoder reported no end of a piece
pub returns-in-None : goal.returns-in-None
returns-in-None g c = λ m. (
  λ none. absurd none,
  λ r. let w = c.law_18.ensures.taken _ _ c.args.piece.now [] m _ _ _ (rw c.requires.ended at c.feed_piece.ensures.takes) c.requires.idle r.0 r.1 in
      absurd (let e = rw c.in-None.is at w.0 in cc),
)
