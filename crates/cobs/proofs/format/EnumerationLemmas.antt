-- The frames of a message (`all_frames`): its encoded frame and, if the message ends in a full run, that frame followed
-- by the lone block. Each message has an encoded frame (`encoded_frame`), because an encoder reaches an open frame of
-- the message (`after_all`). Every other frame of the message has the same blocks, and then the lone block
-- (`same_blocks`). An encoded frame ends in a full block if and only if its message ends in a full run
-- (`ends_in_full`).
use Rattle.std.proofs.Common.{◌≡◌, ◌≢◌, ℕ, zero, suc, ◌+◌, ◌%◌, ◌<◌, ◌↔◌, List, [], ◌∷◌, ◌++◌, length, map, refl, ap, ◌∙◌, arith, append-nil, append_assoc, length-append, inl, inr, ⊎_elim}
use Rattle.std.proofs.lemmas.List.Folds.{concat-append}
use Rattle.std.proofs.lemmas.List.{length_push}
use Rattle.cobs.specs.Stream.{stretches}
use Rattle.cobs.specs.Grammar.{IsFull, joint, lone_block, last_of, IsOpenFrame, Reads, IsEncodedFrame}
use Rattle.cobs.specs.Length.{full_blocks, last_number, EndsInFullRun, encoded_len}
use Rattle.cobs.specs.OpenBlock.{EncoderAfter, OpenBlock, next_open}
use Rattle.cobs.proofs.encoding.OpenLemmas.{IsOpenFrame-start, encoded-of, message_of-more}
use Rattle.cobs.proofs.encoding.OpenedLemmas.{open-full, open-more, open-zero}
use Rattle.cobs.specs.Laws.{IsFrameFor}
use Rattle.cobs.proofs.format.FrameLemmas.{last_of-push}
use Rattle.cobs.proofs.format.GrammarLemmas.{lone_block-reads, shorter_end}
use Rattle.cobs.proofs.format.LengthLemmas.{encoded_len-short, encoded_len-run, some_stretch}
use Rattle.cobs.proofs.format.JoinLemmas.{Reads-append}
use Rattle.cobs.proofs.format.UniqueLemmas.{IsEncodedFrame-shorter, len-blocks, length-encoded, same_blocks}

-- A MESSAGE THAT ENDS IN A FULL RUN

-- a zero at the end of a message adds one stretch, which is empty
stretches-zero : (m : List ℕ) → stretches (m ++ 0 ∷ []) ≡ stretches m ++ [] ∷ []
stretches-zero [] = refl
stretches-zero (zero ∷ m) = grind (arith, stretches-zero m)
stretches-zero (suc b ∷ m) = grind (arith, some_stretch, stretches-zero m)

-- The lists `parts` are the stretches of a message. One more empty stretch adds a full block if and only if the last
-- stretch has a positive length that is divisible by 254.
runs-zero : (parts : List (List ℕ)) → parts ≢ [] → (full_blocks (map length (parts ++ [] ∷ [])) ≡ full_blocks (map length parts) + 1)
    ↔ ((0 < last_number (map length parts)) × (last_number (map length parts) % 254 ≡ 0))
runs-zero [] some = absurd (some refl)
runs-zero (p ∷ []) some = grind arith
runs-zero (p ∷ q ∷ ps) some = grind (arith, runs-zero (q ∷ ps))

-- a zero after a message lengthens its frame by two bytes if and only if the message ends in a full run
full_run-len : (m : List ℕ) → EndsInFullRun m ↔ (encoded_len (m ++ 0 ∷ []) ≡ encoded_len m + 2)
full_run-len m = grind (arith, stretches-zero, runs-zero, length-append)

-- an encoded frame ends in a full block if and only if its message ends in a full run
pub ends_in_full : (g m : List ℕ) (e : IsEncodedFrame g m) → IsFull (last_of e.reads.blocks) ↔ EndsInFullRun m
ends_in_full g m e =
    let r = e.reads in
    let end = shorter_end r.blocks r.frame.some r.frame.each (IsEncodedFrame-shorter g m e) in
    -- `long` and `longer` are the lengths of the encoded frames of m, and of m and a zero, counted block by block
    let long = len-blocks end.front end.code end.bytes end.each end.apart in
    let longer = len-blocks end.front end.code (end.bytes ++ 0 ∷ []) end.each (λ full e. omega (arith, ap length e, length-append end.bytes (0 ∷ []))) in
    grind (arith, full_run-len, message_of-more, encoded_len-short, encoded_len-run, last_of-push)

-- EACH MESSAGE HAS AN ENCODED FRAME

-- an encoder that has taken m can take one more byte b; its open block is then `next_open state b`
pub EncoderAfter-push : (state : OpenBlock) (m : List ℕ) (b : ℕ) → EncoderAfter state m → EncoderAfter (next_open state b) (m ++ b ∷ [])
-- an open frame with 0 in the place of the open block's code is the output of a caller, so `open-zero` gives the next
-- output, whose open frame is the result; `open-full` and `open-more` below do the same for other bytes
EncoderAfter-push state m zero (f, o) = let r = open-zero (f, o, (0, refl)) 0 in (r.0, r.1)
EncoderAfter-push state m (suc b) (f, o) = ⊎_elim
    (λ (full : state.code ≡ 254). grind (arith, open-full (f, o, (0, refl)) (suc b) (λ e. omega arith) 0 full))
    (λ (room : state.code ≢ 254). grind (arith, open-more (f, o, (0, refl)) (suc b) (λ e. omega arith) room))
    (grind arith)

-- an encoder that has taken m can take all bytes of `more`, one after another
after_all : (more m : List ℕ) (state : OpenBlock) → EncoderAfter state m → (next : OpenBlock) × EncoderAfter next (m ++ more)
after_all [] m state h = grind (arith, append-nil)
after_all (b ∷ more) m state h = grind (arith, EncoderAfter-push, append_assoc, after_all more (m ++ b ∷ []) (next_open state b))

-- each message has an encoded frame, which follows from the open frame of an encoder that has taken the whole message
pub encoded_frame : (m : List ℕ) → (f : List ℕ) × IsEncodedFrame f m
encoded_frame m =
    -- an encoder that has taken nothing takes m; the encoded frame is its open frame, or this frame without the lone
    -- block (`encoded-of`)
    let r = after_all m [] (record { index = 0; code = 1 }) (lone_block, IsOpenFrame-start) in
    (_, encoded-of r.1.1 _ refl)

-- ALL FRAMES OF A MESSAGE

-- each frame of a message is one of the two that `IsFrameFor` names: `same_blocks` compares its blocks with the blocks
-- of the encoded frame
frames_of : (f m : List ℕ) → Reads f m → IsFrameFor f m
frames_of f m r =
    let (g, e) = encoded_frame m in
    let s = e.reads in
    elim (same_blocks r.blocks s.blocks r.frame.some s.frame.some r.frame.each s.frame.each (IsEncodedFrame-shorter g m e) (grind arith)) [
      -- the frame has the same blocks, so it is the encoded frame
      | inl same ↦ grind arith
      -- the frame has one more block, the lone block, after a full block
      | inr (front, block, full, is, longer) ↦ inr (
        (ends_in_full g m e).0 (grind (arith, last_of-push)),
        (g, e, grind (arith, concat-append, append_assoc)),
      )
    ]

-- each list that `IsFrameFor` names is a frame of the message. The second list (`inr`) is one because the message ends
-- in a full run, so the lone block adds no byte to the message.
frames_from : (f m : List ℕ) → IsFrameFor f m → Reads f m
frames_from f m (inl e) = e.reads
frames_from f m (inr (x, (g, e, is))) =
    let full = (ends_in_full g m e).1 x in
    -- the encoded frame ends in a full block, whose joint is empty
    let message : m ++ joint (last_of e.reads.blocks) ++ [] ≡ m = grind (arith, append-nil) in
    grind (arith, Reads-append, lone_block-reads)

-- the main lemma, which `law_3` states
pub all_frames : (f m : List ℕ) → Reads f m ↔ IsFrameFor f m
all_frames f m = (frames_of f m, frames_from f m)

-- the second frame is one byte longer than the encoded frame
pub length-second : (f m : List ℕ) → IsEncodedFrame f m → EndsInFullRun m → length (f ++ lone_block) ≡ encoded_len m + 1
length-second f m e x = length_push f 1 ∙ ap (λ n. n + 1) (length-encoded f m e)

-- AN OPEN FRAME

-- an open frame of m is a frame of m
abbrev open_reads : (f m : List ℕ) (index code : ℕ) → IsOpenFrame f m index code → Reads f m
open_reads f m index code o = record { blocks = o.front ++ (code ∷ o.bytes) ∷ []; frame = o.frame; message = o.message }

-- if m doesn't end in a full run, an open frame of m is the encoded frame of m
pub open_shorter : (f m : List ℕ) (index code : ℕ) → IsOpenFrame f m index code → (EndsInFullRun m → ⊥) → IsEncodedFrame f m
open_shorter f m index code o other = ⊎_elim (λ e. e) (grind arith) (frames_of f m (open_reads f m index code o))

-- if m ends in a full run, an open frame of m is the encoded frame of m followed by the lone block
pub open_longer : (f m : List ℕ) (index code : ℕ) → IsOpenFrame f m index code → EndsInFullRun m → (g : List ℕ) × IsEncodedFrame g m × (f ≡ g ++ lone_block)
open_longer f m index code o x = ⊎_elim
    -- the encoded frame of such a message ends in a full block, but the last block of an open frame isn't full
    (λ e. grind (arith, last_of-push, (ends_in_full f m (record { reads = open_reads f m index code o; canonical = e.canonical })).1 x))
    -- so the open frame is the other one of the two frames of m
    (λ w. w.1)
    (frames_of f m (open_reads f m index code o))
