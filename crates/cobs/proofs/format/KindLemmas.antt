-- The kind of a frame, found block by block, as `frame_kind` finds it. While whole blocks are skipped, the bytes
-- after them decide of which kind all bytes are (`BlocksBehind`, kept by `one-more`). At the last block, `broken-kind`,
-- `longer-kind` or `canonical-kind` states the kind. The facts about one block are `front-frame`, `front-canonical` and
-- `short-frame` of `GrammarLemmas`.
use Rattle.std.proofs.Common.{◌≡◌, ◌≢◌, ◌↔◌, ℕ, zero, suc, ◌<◌, Bool, true, eqb, List, [], ◌∷◌, length, take, drop, get_or, All, refl, ap, subst, arith, length-drop, length-take-le, take-append-drop}
use Rattle.std.proofs.lemmas.List.Elements.{All-head, All-tail, All-take, All-drop}
use Rattle.cobs.specs.Grammar.{HasNoZero, IsBlock, IsFull, IsFrame, IsCanonical, lone_block, message_of}
use Rattle.cobs.specs.declared.dec.kind.FrameKind.{FrameKind}
use Rattle.cobs.specs.declared.dec.kind.FrameKind.TheVariants.{NotAFrame, Canonical, Longer}
use Rattle.cobs.proofs.format.FrameLemmas.{frame_some}
use Rattle.cobs.proofs.format.GrammarLemmas.{IsCanonical-block, front-canonical, front-frame, short-frame}

-- THE MEANING OF A KIND

-- the fact that a `FrameKind` states about the list f
abbrev pub IsKindOf : FrameKind → List ℕ → Type 0
IsKindOf NotAFrame f = ¬ IsFrame f
IsKindOf Canonical f = IsCanonical f
IsKindOf Longer f = IsFrame f × ¬ IsCanonical f

-- a canonical frame is a frame
frame_of : (f : List ℕ) → IsCanonical f → IsFrame f
frame_of f c = (message_of c.blocks, record { blocks = c.blocks; frame = c.frame; message = refl })

-- a kind that holds for a list is the list's only kind
pub says : (f : List ℕ) (kind : FrameKind) → IsKindOf kind f → record {
  not_a_frame : (kind ≡ NotAFrame) ↔ ¬ IsFrame f;
  canonical : (kind ≡ Canonical) ↔ IsCanonical f;
  longer : (kind ≡ Longer) ↔ (IsFrame f × ¬ IsCanonical f);
}
says f kind h = grind (arith, frame_of)

-- BLOCK BY BLOCK

-- The list f consists of whole blocks and then `rest`, and `after_full` says whether the last of these blocks is full.
-- So `rest` decides whether f is a frame (`frame`), and whether f is canonical (`canonical`).
pub record BlocksBehind (f rest : List ℕ) (after_full : Bool) : Type 0 where
  pub nonzero : HasNoZero rest
  pub below : All (λ b. b < 256) rest
  pub frame : IsFrame f ↔ IsFrame rest
  pub canonical : IsCanonical f ↔ (IsCanonical rest × (after_full ≡ true → rest ≢ lone_block))

-- f isn't a frame if no byte follows the whole blocks, or if fewer bytes follow than the next code says
pub broken-kind : (f rest : List ℕ) (full : Bool) → BlocksBehind f rest full → (0 < length rest → length rest < get_or rest 0 0) → IsKindOf NotAFrame f
broken-kind f [] full blocks broken = λ frame. (let h = blocks.frame.0 frame in frame_some [] h.0 h.1 refl)
broken-kind f (code ∷ bytes) full blocks broken = λ frame. short-frame code bytes (omega arith) (blocks.frame.0 frame)

-- if more bytes are left than the next code says, the block with this code is whole, and can be skipped too
pub one-more : (f rest : List ℕ) (full : Bool) → BlocksBehind f rest full → get_or rest 0 0 < length rest → BlocksBehind f (drop (get_or rest 0 0) rest) (eqb (get_or rest 0 0) 255)
one-more f [] full blocks more = grind arith
one-more f (zero ∷ bytes) full blocks more = grind arith
one-more f (suc n ∷ bytes) full blocks more =
    -- `block` is the next block, and `after` has the bytes after it; `is` says that `block` is a block, and `other`
    -- that bytes follow it. `none` says that no byte after the code is a zero.
    let block : List ℕ = suc n ∷ take n bytes in
    let after : List ℕ = drop n bytes in
    let long = length-drop n bytes in
    let m = length-take-le n bytes (omega arith) in
    let none = All-tail (λ b. b ≢ 0) (suc n) bytes blocks.nonzero in
    let is : IsBlock block = (omega arith, All-head (λ b. b < 256) (suc n) bytes blocks.below, All-take (λ b. b ≢ 0) n bytes none) in
    let other : after ≢ [] = grind arith in
    let all = take-append-drop n bytes in
    -- the block and the bytes `after` are a frame, or a canonical frame, depending on `after` (`GrammarLemmas`)
    let same_frame = subst (λ x. IsFrame (suc n ∷ x) ↔ IsFrame after) all (front-frame block after is other) in
    let same_kind = subst (λ x. IsCanonical (suc n ∷ x) ↔ (IsCanonical after × (IsFull block → after ≢ lone_block))) all (front-canonical block after is other) in
    record {
      nonzero = All-drop (λ b. b ≢ 0) n bytes none;
      below = All-drop (λ b. b < 256) n bytes (All-tail (λ b. b < 256) (suc n) bytes blocks.below);
      frame = grind arith;
      -- `rest` isn't the lone block, because it has at least two bytes
      canonical = (λ h. same_kind.0 (blocks.canonical.0 h).0, λ h. blocks.canonical.1 (same_kind.1 h, λ _ e. omega (arith, ap length e)));
    }

-- if exactly as many bytes are left as the next code says, they are a block
last-block : (rest : List ℕ) → HasNoZero rest → All (λ b. b < 256) rest → 0 < length rest → length rest ≡ get_or rest 0 0 → IsBlock rest
last-block [] nonzero below some last = grind arith
last-block (code ∷ bytes) nonzero below some last = (omega arith, All-head (λ b. b < 256) code bytes below, All-tail (λ b. b ≢ 0) code bytes nonzero)

-- a block of one byte is the lone block
lone-is : (rest : List ℕ) → length rest ≡ get_or rest 0 0 → length rest ≡ 1 → rest ≡ lone_block
lone-is [] last one = grind arith
lone-is (code ∷ []) last one = grind arith
lone-is (code ∷ x ∷ bytes) last one = grind arith

-- `rest` is the last block of f: it has exactly as many bytes as its code says
module _ (f rest : List ℕ) (full : Bool) (blocks : BlocksBehind f rest full) (some : 0 < length rest) (last : length rest ≡ get_or rest 0 0) where
  -- the last block alone is a canonical frame
  canonical : IsCanonical rest
  canonical = grind (arith, IsCanonical-block, last-block)

  -- if the last block is the lone block, and follows a full block, f is a longer frame
  pub longer-kind : full ≡ true → length rest ≡ 1 → IsKindOf Longer f
  longer-kind is_full one = grind (arith, frame_of, canonical, lone-is)

  -- if the last block isn't the lone block, or doesn't follow a full block, f is canonical
  pub canonical-kind : (full ≡ true → length rest ≢ 1) → IsKindOf Canonical f
  canonical-kind other = grind (arith, canonical)
