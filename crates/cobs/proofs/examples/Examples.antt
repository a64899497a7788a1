-- Worked cases of the definitions and of some laws. They show that these laws say something about some frames, and that
-- some of their premises are needed.
use Rattle.std.proofs.Common.{◌≡◌, ◌≢◌, ℕ, List, [], ◌∷◌, ◌++◌, replicate, map, refl, arith, true, All, Some, None, sym, subst, ⊎_elim}
use Rattle.std.proofs.lemmas.List.Elements.{All-head, All-replicate}
use Rattle.std.proofs.lemmas.Bool.{true≢false}
use Rattle.cobs.specs.Grammar.{IsBlock, IsFrameOf, Reads, IsFrame, IsCanonical, IsEncodedFrame, lone_block}
use Rattle.cobs.specs.Length.{runs, encoded_len, last_run}
use Rattle.cobs.specs.Sentinel.{xor_each}
use Rattle.cobs.specs.Piece.{parts, parts_after, last_part, is_whole, output, kept_output}
use Rattle.cobs.specs.Stream.{Message, Broken, TooLong, outcome_of, first_piece, head}
use Rattle.cobs.proofs.format.GrammarLemmas.{block-frame, one_frame, Reads-cons, IsCanonical-block, IsCanonical-cons}
use Rattle.cobs.proofs.format.FrameLemmas.{frame_whole, parts-frame}
use Rattle.cobs.proofs.format.UniqueLemmas.{one_encoded}
use Rattle.cobs.proofs.format.EnumerationLemmas.{all_frames}
use Rattle.cobs.proofs.format.JoinLemmas.{front_frame}

-- `runs` also counts the empty runs before, between and after zeros
runs_of_each : map runs ((10 ∷ 11 ∷ 0 ∷ 12 ∷ []) ∷ [] ∷ (0 ∷ 0 ∷ []) ∷ []) ≡ (2 ∷ 1 ∷ []) ∷ (0 ∷ []) ∷ (0 ∷ 0 ∷ 0 ∷ []) ∷ []
runs_of_each = refl

-- the lengths of the frames of messages of ones
lengths_of_ones : map (λ n. encoded_len (replicate n 1)) (0 ∷ 1 ∷ 253 ∷ 254 ∷ 255 ∷ 508 ∷ 509 ∷ []) ≡ 1 ∷ 2 ∷ 254 ∷ 255 ∷ 257 ∷ 510 ∷ 512 ∷ []
lengths_of_ones = refl

-- the lengths of the frames of messages of ones, each with a zero after the ones
lengths_before_zero : map (λ n. encoded_len (replicate n 1 ++ 0 ∷ [])) (0 ∷ 1 ∷ 253 ∷ 254 ∷ 255 ∷ 508 ∷ []) ≡ 2 ∷ 3 ∷ 255 ∷ 257 ∷ 258 ∷ 512 ∷ []
lengths_before_zero = refl

-- the first block of the frame of the message 10 11 0 12, which has a zero between two runs
first_block : IsBlock (3 ∷ 10 ∷ 11 ∷ [])
first_block = grind arith

-- the last block of this frame
last_block : IsBlock (2 ∷ 12 ∷ [])
last_block = grind arith

-- the encoded frame of this message consists of the two blocks
frame_between : IsEncodedFrame (3 ∷ 10 ∷ 11 ∷ 2 ∷ 12 ∷ []) (10 ∷ 11 ∷ 0 ∷ 12 ∷ [])
frame_between = record {
  reads = Reads-cons (3 ∷ 10 ∷ 11 ∷ []) (2 ∷ 12 ∷ []) (12 ∷ []) first_block (record { blocks = (2 ∷ 12 ∷ []) ∷ []; frame = block-frame (2 ∷ 12 ∷ []) last_block; message = refl });
  canonical = IsCanonical-cons (3 ∷ 10 ∷ 11 ∷ []) (2 ∷ 12 ∷ []) first_block (λ full. cc) (IsCanonical-block (2 ∷ 12 ∷ []) last_block);
}

-- the full block of 254 ones
abbrev block_of_ones : List ℕ
block_of_ones = 255 ∷ replicate 254 1

-- it is a block
ones_block : IsBlock block_of_ones
ones_block = (refl, omega arith, All-replicate (λ byte. byte ≢ 0) 254 1 (λ e. omega arith))

-- this block with the lone block after it is a frame of these two blocks
longer_blocks : IsFrameOf (block_of_ones ++ lone_block) (block_of_ones ∷ lone_block ∷ [])
longer_blocks = grind (arith, ones_block)

-- the block of the 254 ones, with the lone block after it, reads as the 254 ones too
longer_reads : Reads (block_of_ones ++ lone_block) (replicate 254 1)
longer_reads = grind (arith, longer_blocks)

-- the block of the 254 ones with the lone block after it isn't canonical
longer_not_canonical : IsCanonical (block_of_ones ++ lone_block) → ⊥
longer_not_canonical c = c.shorter [] block_of_ones refl (one_frame (block_of_ones ++ lone_block) c.blocks (block_of_ones ∷ lone_block ∷ []) c.frame longer_blocks)

-- A FRAME READS AS ITS OUTPUT

-- a piece that breaks off: its parts, its output, and its kept output
broken_piece : (parts (2 ∷ 5 ∷ 3 ∷ 1 ∷ []) ≡ (2 ∷ 5 ∷ []) ∷ (3 ∷ 1 ∷ []) ∷ []) × (output (2 ∷ 5 ∷ 3 ∷ 1 ∷ []) ≡ 5 ∷ 0 ∷ 1 ∷ []) × (kept_output (2 ∷ 5 ∷ 3 ∷ 1 ∷ []) ≡ 5 ∷ 0 ∷ [])
unfolding parts parts_after output kept_output is_whole last_part
broken_piece = grind arith

-- the outcome of a broken piece is no message; the outcome of a whole piece is a message if and only if there is room
outcomes : (map (outcome_of (2 ∷ 5 ∷ 3 ∷ 1 ∷ [])) (3 ∷ 2 ∷ []) ≡ Broken 3 ∷ TooLong ∷ []) × (map (outcome_of (2 ∷ 12 ∷ [])) (1 ∷ 0 ∷ []) ≡ Message (12 ∷ []) ∷ TooLong ∷ [])
unfolding parts parts_after output is_whole last_part outcome_of
outcomes = (refl, refl)

-- the number 256 and 255 bytes after it: they would be a block if 256 were a code
abbrev beyond_bytes : List ℕ
beyond_bytes = 256 ∷ replicate 255 1

-- no byte of this list's last part is missing
beyond_whole : is_whole beyond_bytes ≡ true
unfolding parts parts_after is_whole last_part
beyond_whole = refl

-- but the list isn't a frame; so `law_1` needs its premise that each number is below 256
beyond_no_frame : IsFrame beyond_bytes → ⊥
unfolding parts parts_after
beyond_no_frame (m, r) =
    let each = subst (All IsBlock) (sym (parts-frame beyond_bytes r.blocks r.frame)) r.frame.each in
    grind (arith, All-head)

-- ALL FRAMES OF A MESSAGE

-- the empty message, a message that ends in a zero, 253 ones, 255 ones, and 254 ones after a zero: only the last
-- message ends in a full run
last_runs : map last_run ([] ∷ (replicate 254 1 ++ 0 ∷ []) ∷ replicate 253 1 ∷ replicate 255 1 ∷ (0 ∷ replicate 254 1) ∷ []) ≡ 0 ∷ 0 ∷ 253 ∷ 255 ∷ 254 ∷ []
last_runs = refl

-- a message that doesn't end in a full run has one frame
one_frame_between : (f : List ℕ) → Reads f (10 ∷ 11 ∷ 0 ∷ 12 ∷ []) → f ≡ 3 ∷ 10 ∷ 11 ∷ 2 ∷ 12 ∷ []
one_frame_between f r = ⊎_elim
    (λ e. one_encoded f (3 ∷ 10 ∷ 11 ∷ 2 ∷ 12 ∷ []) (10 ∷ 11 ∷ 0 ∷ 12 ∷ []) e frame_between)
    (grind arith)
    ((all_frames f (10 ∷ 11 ∷ 0 ∷ 12 ∷ [])).0 r)

-- ANOTHER SENTINEL

-- the frame of 10 11 0 12 after an XOR with the sentinel 10: its byte 10 is now 0
sentinel_10 : xor_each 10 (3 ∷ 10 ∷ 11 ∷ 2 ∷ 12 ∷ []) ≡ 9 ∷ 0 ∷ 1 ∷ 8 ∷ 6 ∷ []
sentinel_10 = refl

-- FRONTS

-- a front that ends between two blocks is a frame
front_is_frame : IsFrame (3 ∷ 10 ∷ 11 ∷ [])
unfolding parts parts_after
front_is_frame =
    let r = frame_between.reads in
    let blocks = sym (parts-frame (3 ∷ 10 ∷ 11 ∷ 2 ∷ 12 ∷ []) r.blocks r.frame) in
    (front_frame (3 ∷ 10 ∷ 11 ∷ []) (2 ∷ 12 ∷ []) (10 ∷ 11 ∷ 0 ∷ 12 ∷ []) r (λ e. cc)).1 ((3 ∷ 10 ∷ 11 ∷ []) ∷ [], (2 ∷ 12 ∷ []) ∷ [], blocks, refl)

-- fronts that end inside a block aren't frames
fronts_no_frames : (IsFrame (3 ∷ 10 ∷ []) → ⊥) × (IsFrame (3 ∷ 10 ∷ 11 ∷ 2 ∷ []) → ⊥)
unfolding parts parts_after is_whole last_part
fronts_no_frames = (λ (m, r). true≢false (sym (frame_whole (3 ∷ 10 ∷ []) m r)), λ (m, r). true≢false (sym (frame_whole (3 ∷ 10 ∷ 11 ∷ 2 ∷ []) m r)))

-- THE FIRST PIECE

-- the first piece, and the bytes before the first zero: here they are equal, but they differ if the stream begins with
-- a zero
first_pieces : (first_piece (2 ∷ 5 ∷ 0 ∷ 9 ∷ []) ≡ Some (2 ∷ 5 ∷ [])) × (head (2 ∷ 5 ∷ 0 ∷ 9 ∷ []) ≡ 2 ∷ 5 ∷ [])
unfolding first_piece head
first_pieces = (refl, refl)

-- a piece after leading zeros is the first piece, but `head` is then empty; zeros alone have no piece
behind_zeros : (first_piece (0 ∷ 0 ∷ 2 ∷ 5 ∷ 0 ∷ 9 ∷ []) ≡ Some (2 ∷ 5 ∷ [])) × (head (0 ∷ 0 ∷ 2 ∷ 5 ∷ 0 ∷ 9 ∷ []) ≡ []) × (first_piece (0 ∷ 0 ∷ []) ≡ None)
unfolding first_piece head
behind_zeros = grind arith
