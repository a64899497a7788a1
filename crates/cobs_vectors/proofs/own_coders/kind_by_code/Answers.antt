-- From block to block, the kind of the piece depends only on the bytes after the block (`frame_left`,
-- `canonical_left`), by `law_19`. The last block decides: it breaks off, it is the lone block after a full block, or it
-- is any other block (`one_left`, `lone_left`).
-- `law_19`: How to find the kind of a frame, block by block.
use Rattle.std.proofs.Common.{◌≡◌, ◌≢◌, ◌↔◌, ◌++◌, ◌+◌, ◌-◌, ◌<◌, [], ℕ, List, length, drop, get_or, refl, sym, ap, subst, arith, length-drop}
use Rattle.std.proofs.lemmas.Bool.{true≢false}
use Rattle.std.proofs.lemmas.List.{drop_more}
use Rattle.cobs.specs.Grammar.{HasNoZero, IsBlock, IsCanonical, IsFrame, IsFull, lone_block, message_of}
use Rattle.cobs_vectors.proofs.Blocks.{block_at, broken, code_some, is_block, last, split, more_some}
use Rattle.cobs_vectors.proofs.own_coders.kind_by_code.Goals as goal

-- a canonical frame is a frame
frame_of : (f : List ℕ) → IsCanonical f → IsFrame f
frame_of f is = (message_of is.blocks, record { blocks = is.blocks; frame = is.frame; message = refl })

-- a piece without zeros, and an index within it; the code at this index is a byte
module _ (list : List ℕ) (read : ℕ) (nonzero : HasNoZero list) (within : read < length list) (below : get_or list read 0 < 256) where
  -- if exactly as many bytes are left as the code says, the bytes from the index on are a block, so they are a
  -- canonical frame; `one` is a clause of `law_19`
  one_left : ((block : List ℕ) → IsBlock block → IsCanonical block) → length list - read ≡ get_or list read 0 → IsCanonical (drop read list)
  one_left one end = grind (arith, last, block_at, is_block)

  -- if the bytes from the index on are the lone block, the code there is 1
  lone_left : drop read list ≡ lone_block → get_or list read 0 ≡ 1
  lone_left lone = grind (arith, drop_more)

  -- more bytes are left than the code says, so more bytes follow the block
  module _ (far : get_or list read 0 < length list - read) where
    -- the bytes at `read` are a block
    block : IsBlock (block_at list read)
    block = grind (arith, is_block)

    -- the bytes from the index on are a frame if and only if the bytes after the block are a frame; `law` is the clause
    -- `frame` of `law_19`
    frame_left : ((block f : List ℕ) → IsBlock block → f ≢ [] → (IsFrame (block ++ f) ↔ IsFrame f)) → IsFrame (drop read list) ↔ IsFrame (drop (read + get_or list read 0) list)
    frame_left law = subst (λ (x : List ℕ). IsFrame x ↔ IsFrame (drop (read + get_or list read 0) list)) (sym (split list read nonzero within)) (law (block_at list read) (drop (read + get_or list read 0) list) block (more_some list read nonzero within far))

    -- the bytes from the index on are canonical if and only if the bytes after the block are, and aren't the lone block
    -- after a full block; `law` is the clause `canonical` of `law_19`
    canonical_left : ((block f : List ℕ) → IsBlock block → f ≢ [] → (IsCanonical (block ++ f) ↔ (IsCanonical f × (IsFull block → f ≢ lone_block))))
        → IsCanonical (drop read list) ↔ (IsCanonical (drop (read + get_or list read 0) list) × (IsFull (block_at list read) → drop (read + get_or list read 0) list ≢ lone_block))
    canonical_left law = subst (λ (x : List ℕ). IsCanonical x ↔ (IsCanonical (drop (read + get_or list read 0) list) × (IsFull (block_at list read) → drop (read + get_or list read 0) list ≢ lone_block)))
        (sym (split list read nonzero within)) (law (block_at list read) (drop (read + get_or list read 0) list) block (more_some list read nonzero within far))

    -- the bytes from the index on aren't the lone block, because more than one byte is left
    not_lone : drop read list ≢ lone_block
    not_lone lone = let l = length-drop read list in let e = ap length lone in let some = code_some list read nonzero within in omega arith

-- the last block breaks off, so the piece isn't a frame (`none`)
pub returns-then-left-code-clause-frame : goal.returns-then-left-code-clause-frame
returns-then-left-code-clause-frame c =
    let none = broken c.args.piece.now c.by_block.read c.requires.1 c.by_block.invariant.within (λ f. IsFrame f → ⊥) c.law_19.ensures.short c.if-left-code.true in
    (λ _ frame. none (c.by_block.invariant.frame.0 frame), λ _. refl)

-- the last block breaks off, so the piece isn't canonical either
pub returns-then-left-code-clause-canonical : goal.returns-then-left-code-clause-canonical
returns-then-left-code-clause-canonical c =
    let none = broken c.args.piece.now c.by_block.read c.requires.1 c.by_block.invariant.within (λ f. IsFrame f → ⊥) c.law_19.ensures.short c.if-left-code.true in
    (λ same. absurd cc, λ is. absurd (none (frame_of (drop c.by_block.read c.args.piece.now) (c.by_block.invariant.canonical.0 is).0)))

-- a full block and the lone block: the piece is a frame
pub returns-then-code-eq1-clause-frame : goal.returns-then-code-eq1-clause-frame
returns-then-code-eq1-clause-frame c = grind (arith, one_left, frame_of)

-- any other last block: the piece is a frame
pub returns-else-after_full-clause-frame : goal.returns-else-after_full-clause-frame
returns-else-after_full-clause-frame c = grind (arith, one_left, frame_of)

-- any other last block: the piece is canonical
pub returns-else-after_full-clause-canonical : goal.returns-else-after_full-clause-canonical
returns-else-after_full-clause-canonical c = grind (arith, one_left, lone_left, true≢false)

-- a block with more bytes after it: the invariant holds at the index after this block
pub by_block-preserved : goal.by_block-preserved
by_block-preserved c =
    let list : List ℕ = c.args.piece.now in
    let read : ℕ = c.by_block.read in
    let fits = c.type_inv.piece read in
    let other = c.if-left-code-2.false in
    let far : get_or list read 0 < length list - read = omega arith in
    let below : get_or list read 0 < 256 = omega arith in
    let within = c.by_block.invariant.within in
    -- the kind of the bytes from the index on, by the bytes after the block
    let frame = frame_left list read c.requires.1 within below far c.law_19.ensures.frame in
    let canonical = canonical_left list read c.requires.1 within below far c.law_19.ensures.canonical in
    record {
      within = omega arith;
      frame = (λ is. frame.0 (c.by_block.invariant.frame.0 is), λ is. c.by_block.invariant.frame.1 (frame.1 is));
      canonical = (
        λ is. canonical.0 (c.by_block.invariant.canonical.0 is).0,
        λ both. c.by_block.invariant.canonical.1 (canonical.1 both, λ full. not_lone list read c.requires.1 within below far),
      );
    }
