-- Lemmas on the blocks of an open frame. The main lemma is `encoded-of`: the encoded frame of the same message is the
-- open frame itself or, if the last block is the lone block and follows a full block, only the blocks before the last
-- block. `message_of-close` and `message_of-more` say how the message depends on the last block.
use Rattle.std.proofs.Common.{◌≡◌, ◌≢◌, ℕ, ◌+◌, Bool, true, false, if◌then◌else◌, List, [], ◌∷◌, ◌++◌, length, All, refl, ap, ◌∙◌, arith, append-nil, append_assoc}
use Rattle.std.specs.List.{concat}
use Rattle.std.proofs.lemmas.List.{same_from_push}
use Rattle.std.proofs.lemmas.Grind.{common_steps}
use Rattle.cobs.specs.Grammar.{IsBlock, is_full, joint, last_of, lone_block, message_of, IsFrameOf, IsEncodedFrame, IsOpenFrame}
use Rattle.cobs.specs.Internal.Reaches.{ends_in_full}
use Rattle.cobs.proofs.format.GrammarLemmas.{encoded-by, IsShorter}
use Rattle.cobs.proofs.format.FrameLemmas.{All-apart, concat-push, last_of-push}
use Rattle.cobs.proofs.format.JoinLemmas.{message_of-append}

-- the message of some blocks and a lone block after them is the message of these blocks, and then the joint of the last
-- of these blocks
pub message_of-close : (front : List (List ℕ)) → front ≢ [] → message_of (front ++ lone_block ∷ []) ≡ message_of front ++ joint (last_of front)
message_of-close front some = grind (arith, message_of-append, append-nil)

-- bytes added to the last block are added to the message, whatever the code
pub message_of-more : (bs : List (List ℕ)) (c d : ℕ) (bytes more : List ℕ) → message_of (bs ++ (c ∷ bytes ++ more) ∷ []) ≡ message_of (bs ++ (d ∷ bytes) ∷ []) ++ more
message_of-more [] c d bytes more = refl
message_of-more (x ∷ []) c d bytes more = grind (arith, append_assoc)
message_of-more (x ∷ y ∷ bs) c d bytes more = grind (arith, append_assoc, message_of-more (y ∷ bs) c d bytes more)

-- if all these lists are blocks, the lists before the last one are blocks, and the last one is a block too
pub All-front : (bs : List (List ℕ)) (b : List ℕ) → All IsBlock (bs ++ b ∷ []) → All IsBlock bs × IsBlock b
All-front bs b h = grind (arith, All-apart)

-- the bytes of some blocks and one more block are a frame of all these blocks
pub frame_push : (bs : List (List ℕ)) (b : List ℕ) → All IsBlock bs → IsBlock b → IsFrameOf (concat bs ++ b) (bs ++ b ∷ [])
frame_push bs b h i = grind (arith, common_steps, concat-push)

-- the open frame of the empty message
pub IsOpenFrame-start : IsOpenFrame lone_block [] 0 1
IsOpenFrame-start = grind arith

-- if the frame ends in a full block, the open block has no bytes, and the last block before the open block is full
pub no_bytes : (front : List (List ℕ)) (bytes : List ℕ) → ends_in_full front bytes ≡ true → (bytes ≡ []) × (is_full (last_of front) ≡ true)
no_bytes front bytes h = grind arith

-- f is an open frame of the message m
module _ {m f : List ℕ} {index code : ℕ} (o : IsOpenFrame f m index code) where
  -- the blocks before the open block are blocks, and the open block is a block too
  pub blocks-of : All IsBlock o.front × IsBlock (code ∷ o.bytes)
  blocks-of = All-front o.front _ o.frame.each

  -- f consists of the blocks before the open block, and then the open block's code and bytes
  pub f-is : f ≡ concat o.front ++ code ∷ o.bytes
  f-is = grind (arith, concat-push)

  -- the blocks of the encoded frame: the last one is left out if it has no bytes and follows a full block
  abbrev pub closed_blocks : Bool → List (List ℕ)
  closed_blocks full = if full then o.front else o.front ++ (code ∷ o.bytes) ∷ []

  -- the bytes of these blocks, which are the encoded frame of m
  abbrev pub closed_frame : Bool → List ℕ
  closed_frame full = concat o.front ++ (if full then [] else code ∷ o.bytes)

  -- these bytes are a frame of these blocks; `full` says whether the encoded frame ends in a full block
  pub closed_frame-is_frame : (full : Bool) → ends_in_full o.front o.bytes ≡ full → IsFrameOf (closed_frame full) (closed_blocks full)
  closed_frame-is_frame false noted = frame_push o.front _ blocks-of.0 blocks-of.1
  closed_frame-is_frame true noted = grind (arith, append-nil, blocks-of)

  -- the last of these blocks is full if and only if `full` says so
  pub closed_blocks-full : (full : Bool) → ends_in_full o.front o.bytes ≡ full → is_full (last_of (closed_blocks full)) ≡ full
  closed_blocks-full false noted = grind (arith, last_of-push)
  closed_blocks-full true noted = grind arith

  -- these blocks don't end in a full block followed by the lone block
  closed_blocks-shorter : (full : Bool) → ends_in_full o.front o.bytes ≡ full → IsShorter (closed_blocks full)
  closed_blocks-shorter false noted fr c full e =
      -- if these blocks ended in a full block and the lone block, the open block would be the lone block after a full
      -- block, but `noted` says that it isn't
      let same = same_from_push o.front (fr ++ c ∷ []) (code ∷ o.bytes) lone_block (grind (arith, append_assoc)) in
      grind (arith, last_of-push)
  closed_blocks-shorter true noted fr c full e =
      -- if the blocks before the open block ended in the lone block, their last block wouldn't be full, but `noted`
      -- says that it is
      grind (arith, append_assoc, last_of-push (fr ++ c ∷ []) lone_block)

  -- these blocks stand for m too
  closed_blocks-message : (full : Bool) → ends_in_full o.front o.bytes ≡ full → m ≡ message_of (closed_blocks full)
  closed_blocks-message false noted = o.message
  closed_blocks-message true noted =
      -- the open block is the lone block, and the joint of the full block before it is empty
      let none = no_bytes o.front o.bytes noted in
      let one : code ≡ 1 = blocks-of.1.0 ∙ ap (λ x. length x + 1) none.0 in
      grind (arith, message_of-close, append-nil)

  -- the encoded frame of m
  pub encoded-of : (full : Bool) → ends_in_full o.front o.bytes ≡ full → IsEncodedFrame (closed_frame full) m
  encoded-of full noted = encoded-by _ (closed_frame-is_frame full noted) (closed_blocks-message full noted) (closed_blocks-shorter full noted)
