-- The parts of a frame are its blocks (`parts-frame`): by induction on the blocks. So a frame reads as its output
-- (`frame_output`), and no byte of its last part is missing (`frame_whole`). In the other direction, a whole piece is a
-- frame of its output (`reads_output`).
use Rattle.std.proofs.Common.{◌≡◌, ◌≢◌, ℕ, zero, suc, ◌-◌, ◌<◌, ◌≤◌, List, [], ◌∷◌, ◌++◌, length, drop, All, refl, subst, arith, append-nil, append_assoc, length-append, length-take, take-append-drop, take_at, drop_at}
use Rattle.std.specs.List.{concat}
use Rattle.std.proofs.lemmas.List.{drop_all}
use Rattle.std.proofs.lemmas.List.Folds.{concat-append}
use Rattle.std.proofs.lemmas.List.Elements.{All-head, All-tail, All-nil, All-append, All-take, All-drop}
use Rattle.cobs.specs.Grammar.{HasNoZero, IsBlock, bytes_of, joint, message_of, last_of, IsFrameOf, Reads}
use Rattle.cobs.specs.Piece.{parts_after, parts, last_part, missing, is_whole, IsWhole, output}

-- THE PARTS OF A LIST

-- the parts after n bytes are the parts of the remaining bytes
pub parts_after-drop : (n : ℕ) (p : List ℕ) → parts_after n p ≡ parts_after 0 (drop n p)
unfolding parts_after
parts_after-drop zero p = refl
parts_after-drop (suc n) [] = refl
parts_after-drop (suc n) (x ∷ p) = parts_after-drop n p

-- if all bytes are skipped, no part is left
pub parts_after-past : (n : ℕ) (p : List ℕ) → length p ≤ n → parts_after n p ≡ []
unfolding parts_after
parts_after-past n p h = grind (arith, parts_after-drop, drop_all)

-- if fewer bytes are skipped than there are, a part is left
pub parts_after-some : (n : ℕ) (p : List ℕ) → n < length p → parts_after n p ≢ []
unfolding parts_after
parts_after-some n [] h = grind arith
parts_after-some zero (c ∷ p) h = λ e. cc
parts_after-some (suc n) (x ∷ p) h = parts_after-some n p (omega arith)

-- the parts after the first n bytes, end to end, are the bytes after the first n bytes
concat-parts_after : (n : ℕ) (p : List ℕ) → concat (parts_after n p) ≡ drop n p
unfolding parts_after
concat-parts_after zero [] = refl
concat-parts_after (suc n) [] = refl
concat-parts_after (suc n) (x ∷ p) = concat-parts_after n p
concat-parts_after zero (c ∷ p) = rw (concat-parts_after (c - 1) p, take-append-drop (c - 1) p) refl

-- the parts of a list, end to end, are the list
pub concat-parts : (p : List ℕ) → concat (parts p) ≡ p
unfolding parts
concat-parts p = concat-parts_after 0 p

-- a list that isn't empty has a part
pub parts-some : (p : List ℕ) → p ≢ [] → parts p ≢ []
unfolding parts
parts-some [] some = grind arith
parts-some (c ∷ p) some = grind (arith, parts_after-some)

-- a list in front of others doesn't change which list is the last one
pub last_of-cons : (xs : List ℕ) (more : List (List ℕ)) → more ≢ [] → last_of (xs ∷ more) ≡ last_of more
last_of-cons xs more h = grind arith

-- if ys isn't empty, the last list of `xs ++ ys` is the last list of ys
pub last_of-append : (xs ys : List (List ℕ)) → 0 < length ys → last_of (xs ++ ys) ≡ last_of ys
last_of-append [] ys some = refl
last_of-append (x ∷ xs) ys some = grind (arith, length-append xs ys, last_of-append xs ys some)

-- some blocks, the block b and more blocks aren't an empty list
pub append-some : (bs : List (List ℕ)) (b : List ℕ) (cs : List (List ℕ)) → bs ++ b ∷ cs ≢ []
append-some [] b cs e = cc
append-some (x ∷ bs) b cs e = cc

-- the bytes of some blocks and one more block are the bytes of the blocks, followed by the bytes of the one block
pub concat-push : (front : List (List ℕ)) (block : List ℕ) → concat (front ++ block ∷ []) ≡ concat front ++ block
concat-push front block = grind (arith, concat-append, append-nil)

-- the last list is the one that was appended
pub last_of-push : (xs : List (List ℕ)) (x : List ℕ) → last_of (xs ++ x ∷ []) ≡ x
last_of-push xs x = last_of-append xs (x ∷ []) (omega arith)

-- THE PARTS OF BLOCKS ARE THE BLOCKS

-- if a list begins with a block, this block is its first part
pub parts-block : (block rest : List ℕ) → IsBlock block → parts (block ++ rest) ≡ block ∷ parts rest
unfolding parts parts_after
parts-block block rest h = grind (arith, take_at, drop_at, parts_after-drop)

-- if a list begins with some blocks, these blocks are its first parts
pub parts-append : (blocks : List (List ℕ)) (rest : List ℕ) → All IsBlock blocks → parts (concat blocks ++ rest) ≡ blocks ++ parts rest
parts-append [] rest h = refl
parts-append (block ∷ blocks) rest h = grind (arith, append_assoc, parts-block, All-head, parts-append blocks rest (All-tail IsBlock block blocks h))

-- the parts of a frame are its blocks
pub parts-frame : (f : List ℕ) (blocks : List (List ℕ)) → IsFrameOf f blocks → parts f ≡ blocks
unfolding parts parts_after
parts-frame f blocks frame = grind (arith, append-nil, parts-append blocks [] frame.each)

-- no byte of the last block is missing
missing-last : (blocks : List (List ℕ)) → All IsBlock blocks → missing (last_of blocks) ≡ 0
missing-last [] h = refl
missing-last (block ∷ []) h = grind (arith, All-head)
missing-last (block ∷ next ∷ blocks) h = missing-last (next ∷ blocks) (All-tail IsBlock block (next ∷ blocks) h)

-- WHOLE PIECES

-- if no byte of the last part is missing, all parts after the first n bytes are blocks
blocks_behind : (n : ℕ) (p : List ℕ) → HasNoZero p → All (λ b. b < 256) p → missing (last_of (parts_after n p)) ≡ 0 → All IsBlock (parts_after n p)
unfolding parts_after
blocks_behind n [] h below whole = All-nil IsBlock
blocks_behind (suc n) (x ∷ p) h below whole = blocks_behind n p (All-tail (λ b. b ≢ 0) x p h) (All-tail (λ b. b < 256) x p below) whole
blocks_behind zero (c ∷ p) h below whole =
    -- the first part is a block: its code c is from 1 to 255 (`some`, `fits`), and its other bytes aren't zeros
    -- (`nonzero`). The parts after it are blocks by induction (`rest`).
    let some : c ≢ 0 = All-head (λ b. b ≢ 0) c p h in
    let fits : c < 256 = grind (arith, All-head) in
    let rest = blocks_behind (c - 1) p (All-tail (λ b. b ≢ 0) c p h) (All-tail (λ b. b < 256) c p below) in
    let nonzero = All-take (λ b. b ≢ 0) (c - 1) p (All-tail (λ b. b ≢ 0) c p h) in
    grind (arith, parts_after-past, length-take)

-- the parts of a whole piece are blocks
pub blocks_of_whole : (p : List ℕ) → HasNoZero p → All (λ b. b < 256) p → IsWhole p → All IsBlock (parts p)
unfolding parts last_part is_whole
blocks_of_whole [] h below whole = absurd (cc)
blocks_of_whole (c ∷ p) h below whole = grind (arith, blocks_behind)

-- A FRAME READS AS ITS OUTPUT

-- no byte of some blocks is a zero
concat_nonzero : (blocks : List (List ℕ)) → All IsBlock blocks → HasNoZero (concat blocks)
concat_nonzero [] h = All-nil _
concat_nonzero (block ∷ blocks) h =
    let is = All-head IsBlock block blocks h in
    All-append (λ b. b ≢ 0) block _ (grind arith) (concat_nonzero blocks (All-tail IsBlock block blocks h))

-- one or more blocks have at least one byte
concat_some : (blocks : List (List ℕ)) → blocks ≢ [] → All IsBlock blocks → concat blocks ≢ []
concat_some [] some h = grind arith
concat_some ([] ∷ blocks) some h = grind (arith, All-head)
concat_some ((c ∷ bytes) ∷ blocks) some h = λ e. cc

-- f is a frame of the message m
module _ (f m : List ℕ) (r : Reads f m) where
  -- no frame is empty
  pub frame_some : f ≢ []
  frame_some e = grind (arith, concat_some)

  -- no byte of a frame is zero
  pub frame_nonzero : HasNoZero f
  frame_nonzero = grind (arith, concat_nonzero)

  -- a frame is whole: no byte of its last part is missing
  pub frame_whole : IsWhole f
  unfolding last_part is_whole
  frame_whole = grind (arith, frame_some, parts-frame, missing-last)

  -- a frame reads as its output
  pub frame_output : m ≡ output f
  unfolding output
  frame_output = grind (arith, parts-frame)

-- a whole piece without a zero, whose numbers are below 256, is a frame of its output
pub reads_output : (f : List ℕ) → f ≢ [] → HasNoZero f → All (λ b. b < 256) f → IsWhole f → Reads f (output f)
unfolding output
reads_output f some nonzero below whole = grind (arith, parts-some, blocks_of_whole, concat-parts)

-- A FRAME OF BYTES

-- a property of all elements of two lists end to end holds for each of the two lists
pub All-apart : {X : Type 0} (P : X → Type 0) (xs ys : List X) → All P (xs ++ ys) → All P xs × All P ys
All-apart P xs ys h = (
  subst (All P) (grind (arith, take_at)) (All-take P (length xs) _ h),
  subst (All P) (grind (arith, drop_at)) (All-drop P (length xs) _ h),
)

-- the code of a block is below 256, so if the bytes after the code are below 256, all bytes of the block are
block_bytes : (block : List ℕ) → IsBlock block → All (λ b. b < 256) (bytes_of block) → All (λ b. b < 256) block
block_bytes block h e = grind arith

-- if the numbers in the message of some blocks are below 256, so are all numbers in the blocks
blocks_bytes : (blocks : List (List ℕ)) → All IsBlock blocks → All (λ b. b < 256) (message_of blocks) → All (λ b. b < 256) (concat blocks)
blocks_bytes [] h below = All-nil _
blocks_bytes (block ∷ []) h below = grind (arith, append-nil, block_bytes, All-head)
blocks_bytes (block ∷ next ∷ blocks) h below =
    -- the bytes of the first block with its joint (`apart.0`), and the message of the other blocks (`apart.1`)
    let apart = All-apart (λ b. b < 256) _ (message_of (next ∷ blocks)) below in
    All-append (λ b. b < 256) block _
    (block_bytes block (grind (arith, All-head)) (All-apart (λ b. b < 256) _ (joint block) apart.0).0)
    (blocks_bytes (next ∷ blocks) (All-tail IsBlock block (next ∷ blocks) h) apart.1)

-- if the numbers in a message are below 256, so are the numbers in its frame
pub frame_bytes : (f m : List ℕ) → Reads f m → All (λ b. b < 256) m → All (λ b. b < 256) f
frame_bytes f m r below = grind (arith, blocks_bytes)
