-- Two frames end to end are a frame (`Reads-append`). A front of a frame, if it has at least one byte, is a frame if
-- and only if it ends at the end of a block (`front_frame`), and its message is then a front of the frame's message
-- (`front_message`). The proofs use that the parts of a frame are its blocks (`parts-frame`), and that the message of
-- two lists of blocks is known (`message_of-append`).
use Rattle.std.proofs.Common.{◌≡◌, ◌≢◌, ℕ, ◌↔◌, List, [], ◌∷◌, ◌++◌, refl, ap, ◌∙◌, length, arith, append-nil, length-append, append_assoc}
use Rattle.std.proofs.lemmas.List.{nil_from_length}
use Rattle.std.proofs.lemmas.List.Folds.{concat-append}
use Rattle.std.proofs.lemmas.List.Elements.{All-append}
use Rattle.cobs.specs.Grammar.{IsBlock, joint, message_of, last_of, IsFrameOf, Reads, IsFrame}
use Rattle.cobs.specs.Piece.{parts}
use Rattle.cobs.specs.Laws.{EndsAtBlock, IsFront}
use Rattle.cobs.proofs.format.FrameLemmas.{All-apart, parts-append, parts-frame}

-- JOINED

-- the message of two lists of blocks end to end: between the messages of the two lists is the joint of the first list's
-- last block
pub message_of-append : (bs cs : List (List ℕ)) → bs ≢ [] → cs ≢ [] → message_of (bs ++ cs) ≡ message_of bs ++ joint (last_of bs) ++ message_of cs
message_of-append [] cs some some' = absurd (some refl)
message_of-append (b ∷ []) [] some some' = absurd (some' refl)
message_of-append (b ∷ []) (c ∷ cs) some some' = refl
message_of-append (b ∷ d ∷ bs) cs some some' = grind (arith, append_assoc, message_of-append (d ∷ bs) cs)

-- two frames end to end are a frame, whose blocks are the blocks of the first frame and then those of the second
pub Reads-append : (f m g k : List ℕ) (r : Reads f m) → Reads g k → Reads (f ++ g) (m ++ joint (last_of r.blocks) ++ k)
Reads-append f m g k r s = record {
  blocks = r.blocks ++ s.blocks;
  frame = record {
    -- if the two lists of blocks together were empty, the first list would be empty, but a frame has a block
    some = λ none. r.frame.some (nil_from_length r.blocks (omega (arith, ap length none, length-append r.blocks s.blocks)));
    each = All-append IsBlock r.blocks s.blocks r.frame.each s.frame.each;
    whole = cc (concat-append r.blocks s.blocks);
  };
  message = cc (message_of-append r.blocks s.blocks r.frame.some s.frame.some);
}

-- FRONTS

-- if a front p of a frame is a frame, its blocks are the first blocks of the whole frame
first_blocks : (p q : List ℕ) (blocks first : List (List ℕ)) → IsFrameOf (p ++ q) blocks → IsFrameOf p first → blocks ≡ first ++ parts q
first_blocks p q blocks first frame front = cc (parts-frame (p ++ q) blocks frame, parts-append first q front.each)

-- the message of the first blocks is a front of the message of all blocks
message_of-front : (first rest : List (List ℕ)) → first ≢ [] → (more : List ℕ) × (message_of (first ++ rest) ≡ message_of first ++ more)
message_of-front first [] some = grind (arith, append-nil)
message_of-front first (b ∷ rest) some = (_, message_of-append first (b ∷ rest) some (λ e. cc) ∙ append_assoc (message_of first) _ (message_of (b ∷ rest)))

-- if a front p of a frame isn't empty, p is a frame if and only if it ends at the end of a block
pub front_frame : (p q m : List ℕ) (r : Reads (p ++ q) m) → p ≢ [] → IsFrame p ↔ EndsAtBlock p r.blocks
front_frame p q m r some = (
  -- if p is a frame, its blocks are the first blocks of the whole frame
  λ (k, s). (s.blocks, parts q, first_blocks p q r.blocks s.blocks r.frame s.frame, s.frame.whole),
  -- if p ends at the end of a block, the blocks up to there are a frame
  λ (first, rest, is, ends). (
    message_of first,
    record {
      blocks = first;
      frame = grind (arith, All-apart);
      message = refl;
    },
  ),
)

-- if a front p of a frame of m is a frame of k, the message m begins with k
pub front_message : (p q k m : List ℕ) → Reads (p ++ q) m → Reads p k → IsFront k m
front_message p q k m r s = grind (arith, first_blocks, message_of-front s.blocks (parts q) s.frame.some)
