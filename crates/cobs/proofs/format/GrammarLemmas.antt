-- A frame can be cut into blocks in only one way (`one_frame`, by `parts-frame`), so it has only one message
-- (`one_message`). A block with more bytes after it is a frame if and only if these bytes are a frame (`front-frame`);
-- `front-canonical` says when the block and the bytes are a canonical frame. The lemmas before these put a block before
-- a frame, or describe the last block of a canonical frame (`shorter_end`).
use Rattle.std.proofs.Common.{true, ◌≡◌, ◌≢◌, ◌↔◌, ℕ, ◌+◌, ◌<◌, List, [], ◌∷◌, ◌++◌, length, All, refl, sym, ap, ◌∙◌, subst, arith, append-nil, length-append, length-take}
use Rattle.std.specs.List.{concat}
use Rattle.std.proofs.lemmas.List.{append_cancel_left}
use Rattle.std.proofs.lemmas.List.Elements.{All-nil, All-head, All-tail}
use Rattle.cobs.specs.Grammar.{IsBlock, IsFull, bytes_of, is_full, joint, last_of, lone_block, message_of, IsFrame, IsFrameOf, Reads, IsCanonical, IsEncodedFrame}
use Rattle.cobs.specs.Piece.{parts, parts_after}
use Rattle.cobs.proofs.format.FrameLemmas.{parts-block, parts-frame, frame_output}

-- a frame can be cut into blocks in only one way
pub one_frame : (f : List ℕ) (bs cs : List (List ℕ)) → IsFrameOf f bs → IsFrameOf f cs → bs ≡ cs
one_frame f bs cs hb hc = sym (parts-frame f bs hb) ∙ parts-frame f cs hc

-- a frame has one message
pub one_message : (f m k : List ℕ) → Reads f m → Reads f k → m ≡ k
one_message f m k r s = frame_output f m r ∙ sym (frame_output f k s)

-- the list of blocks doesn't end in a full block followed by the lone block; this is the condition of `IsCanonical` for
-- a list of blocks
abbrev pub IsShorter : List (List ℕ) → Type 0
IsShorter blocks = (front : List (List ℕ)) (block : List ℕ) → IsFull block → blocks ≢ front ++ block ∷ lone_block ∷ []

-- if blocks meet `IsShorter`, so do the blocks after the first one
pub IsShorter-tail : (b : List ℕ) (bs : List (List ℕ)) → IsShorter (b ∷ bs) → IsShorter bs
IsShorter-tail b bs h front block full e = h (b ∷ front) block full (ap (λ l. b ∷ l) e)

-- a block can be put before blocks that meet `IsShorter`, unless it is full and the only other block is the lone block
pub IsShorter-cons : (b : List ℕ) (bs : List (List ℕ)) → (IsFull b → bs ≢ lone_block ∷ []) → IsShorter bs → IsShorter (b ∷ bs)
IsShorter-cons b bs apart s [] block full e = grind arith
IsShorter-cons b bs apart s (x ∷ front) block full e = grind arith

-- a single block meets `IsShorter`
pub IsShorter-single : (b : List ℕ) → IsShorter (b ∷ [])
IsShorter-single b front block full e = (omega (arith, ap length e, length-append front (block ∷ lone_block ∷ [])))

-- the last block of a list that meets `IsShorter`: its code, its bytes after the code, and the blocks before it
-- (`front`). If the block before the last one is full, the last block has at least one byte after its code (`apart`).
pub record ShorterEnd (blocks : List (List ℕ)) : Type 0 where
  pub front : List (List ℕ)
  pub code : ℕ
  pub bytes : List ℕ
  pub is : blocks ≡ front ++ (code ∷ bytes) ∷ []
  pub each : All IsBlock front
  pub last : IsBlock (code ∷ bytes)
  pub apart : is_full (last_of front) ≡ true → bytes ≢ []

-- one or more blocks that meet `IsShorter` have such a last block: by induction on the blocks
pub shorter_end : (bs : List (List ℕ)) → bs ≢ [] → All IsBlock bs → IsShorter bs → ShorterEnd bs
shorter_end [] some each shorter = absurd (some refl)
shorter_end ([] ∷ bs) some each shorter = absurd (All-head IsBlock [] bs each)
shorter_end ((c ∷ a) ∷ []) some each shorter = record {
  front = [];
  code = c;
  bytes = a;
  is = refl;
  each = All-nil IsBlock;
  last = All-head IsBlock (c ∷ a) [] each;
  apart = λ full. cc;
}
shorter_end ((c ∷ a) ∷ d ∷ ds) some each shorter =
    -- b is the first block, and r describes the last of the other blocks, which is the last of all blocks too
    let b : List ℕ = c ∷ a in
    let r = shorter_end (d ∷ ds) (λ e. cc) (All-tail IsBlock b (d ∷ ds) each) (IsShorter-tail b (d ∷ ds) shorter) in
    record {
      front = b ∷ r.front;
      code = r.code;
      bytes = r.bytes;
      is = grind arith;
      each = grind (arith, All-head);
      last = r.last;
      apart = by_front r.front r.is r.last r.apart;
    }
  where
    -- the field `apart` after the block (c ∷ a) is put in front: this block is the block before the last one if there
    -- is no other block before the last one
    by_front : (front : List (List ℕ)) {code : ℕ} {bytes : List ℕ} → d ∷ ds ≡ front ++ (code ∷ bytes) ∷ [] → IsBlock (code ∷ bytes) → (is_full (last_of front) ≡ true → bytes ≢ [])
        → is_full (last_of ((c ∷ a) ∷ front)) ≡ true → bytes ≢ []
    by_front [] {code} is last apart full none = shorter [] (c ∷ a) full (cc)
    by_front (x ∷ front) is last apart full none = apart full none

-- an encoded frame, given its blocks
abbrev pub encoded-by : {f m : List ℕ} (blocks : List (List ℕ)) → IsFrameOf f blocks → m ≡ message_of blocks → IsShorter blocks → IsEncodedFrame f m
encoded-by blocks frame message shorter = record {
  reads = record { blocks = blocks; frame = frame; message = message };
  canonical = record { blocks = blocks; frame = frame; shorter = shorter };
}

-- a block before a frame makes a frame, whose first block is this block
pub frame-cons : (b f : List ℕ) (bs : List (List ℕ)) → IsBlock b → IsFrameOf f bs → IsFrameOf (b ++ f) (b ∷ bs)
frame-cons b f bs h frame = grind arith

-- the message of the block and the frame is the block's bytes, then its joint, then the message of the frame
pub Reads-cons : (b f m : List ℕ) → IsBlock b → Reads f m → Reads (b ++ f) (bytes_of b ++ joint b ++ m)
Reads-cons b f m h r = grind (arith, frame-cons)

-- a block before a canonical frame makes a canonical frame, unless the block is full and the frame is the lone block
pub IsCanonical-cons : (b f : List ℕ) → IsBlock b → (IsFull b → f ≢ lone_block) → IsCanonical f → IsCanonical (b ++ f)
IsCanonical-cons b f h apart r = grind (arith, frame-cons, IsShorter-cons)

-- a block alone is a frame
pub block-frame : (b : List ℕ) → IsBlock b → IsFrameOf b (b ∷ [])
block-frame b h = grind (arith, append-nil)

-- a block alone is a canonical frame
pub IsCanonical-block : (b : List ℕ) → IsBlock b → IsCanonical b
IsCanonical-block b h = grind (arith, block-frame, IsShorter-single)

pub lone_block-is_block : IsBlock lone_block
lone_block-is_block = grind arith

-- the lone block reads as the empty message
pub lone_block-reads : Reads lone_block []
lone_block-reads = record { blocks = lone_block ∷ []; frame = block-frame lone_block lone_block-is_block; message = refl }

-- A BLOCK BEFORE OTHER BYTES: WHICH FRAME THEY ARE TOGETHER

-- the only part of the lone block is the lone block itself
lone-parts : parts lone_block ≡ lone_block ∷ []
unfolding parts parts_after
lone-parts = refl

-- `block` is a block, and f has the bytes after it
module _ (block f : List ℕ) (is : IsBlock block) where
  -- the blocks of the frame are this block and the blocks of the other bytes
  blocks-are : (blocks : List (List ℕ)) → IsFrameOf (block ++ f) blocks → blocks ≡ block ∷ parts f
  blocks-are blocks h = sym (parts-frame _ blocks h) ∙ parts-block block f is

  -- if f isn't empty, and the block and the bytes f are a frame, f is a frame whose blocks are the parts of f
  rest-frame : f ≢ [] → (blocks : List (List ℕ)) → IsFrameOf (block ++ f) blocks → IsFrameOf f (parts f)
  rest-frame some blocks h =
      -- the same frame, with its blocks written as `block` and the parts of f
      let g : IsFrameOf (block ++ f) (block ∷ parts f) = grind (arith, blocks-are) in
      let whole : f ≡ concat (parts f) = grind (arith, append_cancel_left) in
      record { some = λ e. some (whole ∙ ap concat e); each = All-tail IsBlock block (parts f) g.each; whole = whole }

  -- if f isn't empty, the block and the bytes f are a frame if and only if f is a frame
  pub front-frame : f ≢ [] → IsFrame (block ++ f) ↔ IsFrame f
  front-frame some = (
    -- if the block and f are a frame, f is a frame of its parts
    λ frame. (message_of (parts f), record { blocks = parts f; frame = rest-frame some frame.1.blocks frame.1.frame; message = refl }),
    -- if f is a frame, the block can be put before it
    λ frame. (_, Reads-cons block f frame.0 is frame.1),
  )

  -- if f isn't empty, the block and the bytes f are a canonical frame if and only if two conditions hold: f is a
  -- canonical frame, and f isn't the lone block if the block is full
  pub front-canonical : f ≢ [] → IsCanonical (block ++ f) ↔ (IsCanonical f × (IsFull block → f ≢ lone_block))
  front-canonical some = (
    λ c. (
      -- if the block and f are a canonical frame, f is a canonical frame, because the blocks of f end in the same way
      record {
        blocks = parts f;
        frame = rest-frame some c.blocks c.frame;
        shorter = IsShorter-tail block (parts f) (grind (arith, blocks-are));
      },
      -- if the block were full, and f were the lone block, the frame wouldn't be canonical
      λ full lone. c.shorter [] block full (cc (blocks-are c.blocks c.frame, lone-parts)),
    ),
    -- the converse: a block can be put before a canonical frame
    λ both. IsCanonical-cons block f is both.1 both.0,
  )

-- bytes aren't a frame if there are fewer of them than the first code says
pub short-frame : (code : ℕ) (bytes : List ℕ) → length bytes + 1 < code → IsFrame (code ∷ bytes) → ⊥
unfolding parts parts_after
short-frame code bytes short frame =
    -- the parts of a frame are blocks, but the first part has fewer bytes than its code says
    let each : All IsBlock (parts (code ∷ bytes)) = subst (All IsBlock) (sym (parts-frame _ frame.1.blocks frame.1.frame)) frame.1.frame.each in
    grind (arith, length-take)
