-- The rest of the piece, from the index `read` on, is a part of a block, exactly a block, or a block and more bytes
-- (`Blocks`). If it is a block and more bytes, the iteration adds the bytes of this block to the output, and the rest
-- of the output depends only on the bytes after the block (`whole_more`, `kept_more`), by `law_20`. The last block
-- decides whether the piece is whole (`whole_end`, `kept_end`).
-- `law_20`: How to find the output of a piece, block by block.
use Rattle.std.proofs.Common.{◌≡◌, ◌≢◌, ◌∙◌, ◌++◌, ◌∷◌, ◌+◌, ◌-◌, ◌<◌, ◌≤◌, ◌==◌, [], false, true, ℕ, List, length, take, drop, get_or, refl, sym, ap, arith, append_assoc, append-nil}
use Rattle.std.proofs.lemmas.Bool.{eq-eqb, ne_eqb, true≢false}
use Rattle.std.proofs.lemmas.List.Elements.{All-from_get_or}
use Rattle.cobs.specs.Grammar.{HasNoZero, IsBlock, bytes_of, joint}
use Rattle.cobs.specs.Piece.{IsWhole, is_whole, kept_output, output}
use Rattle.cobs_vectors.proofs.Blocks.{block_at, broken, is_block, last, split, more_some}
use Rattle.cobs_vectors.proofs.own_coders.decode_by_code.Goals as goal
use Rattle.cobs_vectors.proofs.own_coders.decode_by_code.Goals.{then-code-ne-FULL+in_ok-push, else-code-ne-FULL}

-- a piece without zeros, and an index within it at which at least as many bytes are left as the code there says;
-- `one_whole` is a clause of `law_20`: a block is whole
module _ (list : List ℕ) (read : ℕ) (nonzero : HasNoZero list) (within : read < length list) (fits : get_or list read 0 ≤ length list - read) (below : get_or list read 0 < 256)
    (one_whole : (block : List ℕ) → IsBlock block → IsWhole block) where
  -- the code at the index
  abbrev code : ℕ
  code = get_or list read 0

  -- the bytes at `read` are a block
  block : IsBlock (block_at list read)
  block = grind (arith, is_block)

  -- exactly as many bytes are left as the code says, so the block is the last one
  module _ (end : length list - read ≡ get_or list read 0) where
    -- the bytes from the index on are whole
    whole_end : is_whole (drop read list) ≡ true
    whole_end = grind (arith, last, block_at, block)

    -- the kept output of the bytes from the index on is the bytes of the block after its code; `one` and `all_kept` are
    -- clauses of `law_20`
    kept_end : ((block : List ℕ) → IsBlock block → output block ≡ bytes_of block) → ((p : List ℕ) → IsWhole p → kept_output p ≡ output p)
        → kept_output (drop read list) ≡ take (get_or list read 0 - 1) (drop (read + 1) list)
    kept_end one all_kept = grind (arith, last, block_at, block)

  -- more bytes are left than the code says, so more bytes follow the block
  module _ (far : get_or list read 0 < length list - read) where
    -- the bytes from the index on are whole if and only if the bytes after the block are; `whole` is a clause of
    -- `law_20`
    whole_more : ((block p : List ℕ) → IsBlock block → p ≢ [] → is_whole (block ++ p) ≡ is_whole p) → is_whole (drop read list) ≡ is_whole (drop (read + get_or list read 0) list)
    whole_more whole = ap is_whole (split list read nonzero within) ∙ whole (block_at list read) (drop (read + code) list) block (more_some list read nonzero within far)

    -- the kept output of the bytes from the index on: the bytes of the block, its joint, and the kept output of the
    -- bytes after the block; `kept` is a clause of `law_20`
    kept_more : ((block p : List ℕ) → IsBlock block → p ≢ [] → kept_output (block ++ p) ≡ bytes_of block ++ joint block ++ kept_output p)
        → kept_output (drop read list) ≡ take (get_or list read 0 - 1) (drop (read + 1) list) ++ joint (block_at list read) ++ kept_output (drop (read + get_or list read 0) list)
    kept_more kept = ap kept_output (split list read nonzero within) ∙ kept (block_at list read) (drop (read + code) list) block (more_some list read nonzero within far)

-- the slice that the function copies is the bytes of the block after its code
copied : (list : List ℕ) (read code : ℕ) → take (read + code - (read + 1)) (drop (read + 1) list) ≡ take (code - 1) (drop (read + 1) list)
copied list read code = grind arith

-- the last block breaks off: the piece isn't whole (`none`), so it reads as no message
pub returns-then-left-code-clause-reads : goal.returns-then-left-code-clause-reads
returns-then-left-code-clause-reads c = λ m.
    let none = broken c.args.piece.now c.by_block.read c.requires.1 c.by_block.invariant.within (λ p. is_whole p ≡ false) c.law_20.ensures.short c.if-left-code.true in (
      λ both. absurd (true≢false (sym both.0)),
      λ reads. absurd (true≢false (sym (c.law_1.ensures.only c.args.piece.now m reads).2 ∙ (c.by_block.invariant.whole ∙ none))),
    )

-- the last block is whole, and so is the piece
pub returns-then-left-code-2-clause-whole : goal.returns-then-left-code-2-clause-whole
returns-then-left-code-2-clause-whole c = grind (arith, whole_end)

-- the last block is whole: the output is the kept output of the piece
pub returns-then-left-code-2-clause-kept : goal.returns-then-left-code-2-clause-kept
returns-then-left-code-2-clause-kept c = grind (arith, kept_end, copied)

-- the last block is whole: the piece reads as its output, and as no other message
pub returns-then-left-code-2-clause-reads : goal.returns-then-left-code-2-clause-reads
returns-then-left-code-2-clause-reads c = λ m.
    -- the code at `read` is a byte, so it is below 256: `whole_end` needs this
    let byte = c.type_inv.piece c.by_block.read in
    let piece : List ℕ = c.args.piece.now in
    -- the bytes from the index on are whole (`left`), so the piece is whole, and the vector has its output (`kept`)
    let left = whole_end piece c.by_block.read c.requires.1 c.by_block.invariant.within c.if-left-code.false (omega arith) c.law_20.ensures.one_whole c.if-left-code-2.true in
    let whole : IsWhole piece = c.by_block.invariant.whole ∙ left in
    let kept : c.extend_from_slice.new.self.items ≡ output piece = returns-then-left-code-2-clause-kept c ∙ c.law_20.ensures.all_kept piece whole in
    let below = All-from_get_or (λ b. b < 256) piece 0 (λ i within. (c.type_inv.piece i).fits) in (
      λ both. (c.law_1.ensures.reads piece m below).1 (c.requires.0, c.requires.1, whole, sym both.1 ∙ kept),
      λ reads. (refl, kept ∙ sym (c.law_1.ensures.only piece m reads).3),
    )

-- a block with more bytes after it: the invariant holds at the index after this block
pub by_block-preserved : goal.by_block-preserved
by_block-preserved c =
    let list : List ℕ = c.args.piece.now in
    let read : ℕ = c.by_block.read in
    let code : ℕ = get_or list read 0 in
    let byte = c.type_inv.piece read in
    let other = c.if-left-code-2.false in
    let fits = c.if-left-code.false in
    let far : code < length list - read = omega arith in
    -- the facts about the bytes from the index on, by the bytes after the block
    let whole = whole_more list read c.requires.1 c.by_block.invariant.within fits (omega arith) c.law_20.ensures.one_whole far c.law_20.ensures.whole in
    let kept = kept_more list read c.requires.1 c.by_block.invariant.within fits (omega arith) c.law_20.ensures.one_whole far c.law_20.ensures.kept in
    -- the bytes of the block after its code, the kept output of the bytes after the block (`rest`), and the output
    -- before this iteration (`before`)
    let run : List ℕ = take (code - 1) (drop (read + 1) list) in
    let rest : List ℕ = kept_output (drop (read + code) list) in
    let before : List ℕ = c.by_block.bytes.items in
    -- after the copy, the vector has the output so far and the bytes of the block; after the branch, it also has the
    -- joint (`is`)
    let now : c.extend_from_slice.new.self.items ≡ before ++ run = c.in_ok-extend_from_slice.ensures.items ∙ ap (λ (x : List ℕ). before ++ x) (copied list read code) in
    let is : c.if-code-ne-FULL.bytes.items ≡ before ++ run ++ joint (block_at list read) = elim c.if-code-ne-FULL.branch [
      -- the block isn't full, and its joint, a zero, was pushed
      | then-code-ne-FULL+in_ok-push w ↦
          let short : (code == 255) ≡ false = ne_eqb code 255 w.if-code-ne-FULL.true in
          rw (w.bytes-is, short) (w.in_ok-push.ensures.items ∙ ap (λ (x : List ℕ). x ++ 0 ∷ []) now)
      -- the block is full, so its joint is empty
      | else-code-ne-FULL w ↦
          let full : (code == 255) ≡ true = eq-eqb code 255 w.if-code-ne-FULL.false in
          rw (w.bytes-is, full) (now ∙ sym (append-nil (before ++ run)))
    ] in
    record {
      within = omega arith;
      whole = c.by_block.invariant.whole ∙ whole;
      kept = c.by_block.invariant.kept ∙ ap (λ (x : List ℕ). before ++ x) kept ∙ sym (ap (λ (x : List ℕ). x ++ rest) is ∙ simp append_assoc);
    }
