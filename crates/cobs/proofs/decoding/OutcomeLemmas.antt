-- The outcome of a piece follows from its output's length and from whether the piece is whole (`outcome_of_whole` and
-- the lemmas after it). Conversely, the outcome says both facts about the piece (`outcome_says`). So it is `Message m`
-- if and only if the piece is a frame of m that fits (`outcome_message`). Then the file is about the bytes of a list
-- before its first zero, which std's `take_while` also gives (`head-is`). If the list begins with a nonzero byte, these
-- bytes are its first piece (`first_piece_head`).
use Rattle.std.proofs.Common.{◌≡◌, ◌≢◌, ℕ, ◌<◌, ◌≤◌, ◌↔◌, List, [], ◌∷◌, ◌++◌, length, All, Some, refl, ap, arith, length-append, length-drop, length-take, false, not, ◌==◌, inl, inr}
use Rattle.std.specs.List.{position_or_len, take_while}
use Rattle.std.proofs.lemmas.Bool.{cases_eq, ne_eqb, leb-true, leb-false}
use Rattle.std.proofs.lemmas.List.Elements.{All-cons, All-nil, All-weaker, All-take}
use Rattle.std.proofs.lemmas.List.Folds.{length-prefix_len}
use Rattle.std.proofs.lemmas.List.Sums.{take_while-cons}
use Rattle.std.proofs.lemmas.List.Splits.{slice_split_none}
use Rattle.cobs.specs.Grammar.{HasNoZero, Reads}
use Rattle.cobs.specs.Headline.{IsPiece}
use Rattle.cobs.specs.Piece.{IsWhole, output, is_whole}
use Rattle.cobs.specs.Stream.{first_piece, head, Message, outcome_of, Outcome, Broken, TooLong}
use Rattle.cobs.proofs.decoding.PieceCuts.{joint_of, output-empty, output-last, output-more, by_parts}
use Rattle.cobs.proofs.format.LengthLemmas.{no_zero, some_stretch, stretches-front}
use Rattle.cobs.proofs.format.FrameLemmas.{frame_some, frame_nonzero, frame_whole, frame_output, reads_output}

-- A FRAME, BY ITS BYTES

-- a frame of m isn't empty, has no zero, is whole, and has the output m
pub reads_only : (f m : List ℕ) → Reads f m → (f ≢ []) × HasNoZero f × IsWhole f × (m ≡ output f)
reads_only f m r = (frame_some f m r, frame_nonzero f m r, frame_whole f m r, frame_output f m r)

-- if all numbers of a list are below 256, the list is a frame of m if and only if these four facts hold
pub reads_iff : (f m : List ℕ) → All (λ b. b < 256) f → Reads f m ↔ ((f ≢ []) × HasNoZero f × IsWhole f × (m ≡ output f))
reads_iff f m below = (
  λ r. reads_only f m r,
  λ (some, nonzero, whole, is). rw is (grind (arith, reads_output)),
)

-- THE OUTPUT IS NO LONGER THAN THE PIECE

pub output_within : (p : List ℕ) → length (output p) ≤ length p
-- by induction on the parts: no byte, a piece that is one part, and a part before others
output_within =
    by_parts (λ (p : List ℕ). length (output p) ≤ length p) (omega (arith, ap length (output-empty [] refl))) (grind (arith, output-last))
    (grind (arith, output-more, joint_of, length-append, length-drop, length-take))

-- THE OUTCOME OF A PIECE

-- what an outcome says of its piece
abbrev pub Says : Outcome → List ℕ → ℕ → Type 0
Says (Message m) p n = (length (output p) ≤ n) × IsWhole p × (m ≡ output p)
Says (Broken count) p n = (length (output p) ≤ n) × (is_whole p ≡ false) × (count ≡ length (output p))
Says TooLong p n = n < length (output p)

-- the outcome of each piece says what `Says` states about the piece
says : (p : List ℕ) (n : ℕ) → Says (outcome_of p n) p n
unfolding outcome_of
says p n = grind (arith, leb-true, leb-false)

-- so an outcome that is known says what `Says` states about the piece
pub outcome_says : (p : List ℕ) (n : ℕ) {outcome : Outcome} → outcome_of p n ≡ outcome → Says outcome p n
outcome_says p n e = rw e at (says p n)

-- a whole piece whose output fits n bytes is a message
pub outcome_of_whole : (p : List ℕ) (n : ℕ) → length (output p) ≤ n → IsWhole p → outcome_of p n ≡ Message (output p)
unfolding outcome_of
outcome_of_whole p n fits whole = grind arith

-- a piece whose output doesn't fit n bytes is too long
pub outcome_of_long : (p : List ℕ) (n : ℕ) → n < length (output p) → outcome_of p n ≡ TooLong
unfolding outcome_of
outcome_of_long p n long = grind arith

-- the outcome of a frame is its message, in each buffer that holds it
pub outcome_frame : (f m : List ℕ) (n : ℕ) → Reads f m → length m ≤ n → outcome_of f n ≡ Message m
outcome_frame f m n r fits = let is = frame_output f m r in rw is (outcome_of_whole f n (omega (arith, ap length is)) (frame_whole f m r))

-- the outcome of a piece is the message m if and only if the piece is a frame of m that fits n bytes
pub outcome_message : (f m : List ℕ) (n : ℕ) → IsPiece f → All (λ b. b < 256) f → (outcome_of f n ≡ Message m) ↔ (Reads f m × (length m ≤ n))
outcome_message f m n (some, nonzero) below = (
  λ e.
      let (fits, whole, is) = outcome_says f n e in
      (rw is (grind (arith, reads_output)), omega (arith, ap length is)),
  λ (r, fits). outcome_frame f m n r fits,
)

-- WHAT IS BEFORE THE FIRST ZERO

pub head-zero : (bytes : List ℕ) → head (0 ∷ bytes) ≡ []
unfolding head
head-zero bytes = refl

-- bytes without a zero, at the front of a list, are before the list's first zero
pub head-append : (p t : List ℕ) → HasNoZero p → head (p ++ t) ≡ p ++ head t
unfolding head
head-append p t h = grind (arith, stretches-front, some_stretch)

-- a nonzero byte at the front of a list is before the list's first zero
pub head-cons : (byte : ℕ) (bytes : List ℕ) → byte ≢ 0 → head (byte ∷ bytes) ≡ byte ∷ head bytes
head-cons byte bytes some = head-append (byte ∷ []) bytes (grind (arith, All-nil))

-- `head` by std's `take_while`: the longest front in which no byte is a zero
pub head-is : (t : List ℕ) → head t ≡ take_while (λ b. not (b == 0)) t
unfolding head
head-is [] = refl
head-is (byte ∷ t) = elim (cases_eq byte 0) [
  -- the first byte is a zero, so no byte is before it
  | inl none ↦ rw none refl
  -- the first byte isn't a zero, so both sides begin with it, and continue alike by induction
  | inr some ↦ rw (head-cons byte t some, head-is t, take_while-cons (λ b. not (b == 0)) byte t, ne_eqb byte 0 some) refl
]

-- the number of bytes before the first zero is the index of this zero, or the length of a list without a zero
pub length-head-is : (t : List ℕ) → length (head t) ≡ position_or_len (λ b. b == 0) t
length-head-is t = grind (arith, head-is, length-prefix_len)

-- no byte before the first zero is a zero
pub head_nonzero : (t : List ℕ) → HasNoZero (head t)
unfolding head
head_nonzero [] = All-nil (λ b. b ≢ 0)
head_nonzero (byte ∷ bytes) = grind (arith, All-nil, head-cons, All-cons, cases_eq, (head_nonzero bytes))

-- a property of all bytes holds for the bytes before the first zero
pub head_all : (P : ℕ → Type 0) (t : List ℕ) → All P t → All P (head t)
head_all P t h = rw (head-is t) (All-take P _ t h)

pub length-head : (t : List ℕ) → length (head t) ≤ length t
length-head t = grind (arith, head-is, length-take)

-- the first piece of a list that begins with a nonzero byte: the bytes before the list's first zero
pub first_piece_head : (byte : ℕ) (bytes : List ℕ) → byte ≢ 0 → first_piece (byte ∷ bytes) ≡ Some (head (byte ∷ bytes))
unfolding first_piece head
first_piece_head byte bytes some = grind (arith, ne_eqb, head-cons)

-- in a buffer of the list's length, the bytes before the first zero have the outcome `Message m` if and only if they
-- are a frame of m
pub head_reads : (byte : ℕ) (bytes m : List ℕ) → byte ≢ 0 → All (λ b. b < 256) (byte ∷ bytes) → (outcome_of (head (byte ∷ bytes)) (length (byte ∷ bytes)) ≡ Message m) ↔ Reads (head (byte ∷ bytes)) m
head_reads byte bytes m some below =
    let t = byte ∷ bytes in
    let piece : IsPiece (head t) = grind (arith, head-cons, head_nonzero) in
    -- `both`: the outcome is `Message m` if and only if these bytes are a frame of m that fits, and each message of
    -- such a frame fits
    let both = outcome_message (head t) m (length t) piece (head_all (λ b. b < 256) t below) in
    grind (arith, frame_output, output_within, length-head)

-- A PIECE ALONE IS ITS OWN FIRST PIECE AND HEAD

-- in a list without a zero, all bytes are before the first zero
pub head_alone : (p : List ℕ) → HasNoZero p → head p ≡ p
unfolding head
head_alone p h = grind (arith, slice_split_none, no_zero)

-- a list without a zero, if it isn't empty, is its own first piece
pub first_piece_alone : (p : List ℕ) → p ≢ [] → HasNoZero p → first_piece p ≡ Some p
unfolding first_piece
first_piece_alone p h e = grind (arith, slice_split_none, All-weaker, ne_eqb)
