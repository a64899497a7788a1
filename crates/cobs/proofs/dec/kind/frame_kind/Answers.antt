-- If one of the bytes is a zero, the bytes aren't a frame (`frame_nonzero`). Otherwise the bytes from index `read` on
-- decide the kind, because only whole blocks come before them (`BlocksBehind` of `KindLemmas`). A whole block before
-- others preserves this (`one-more`). The last block decides: it breaks off (`broken-kind`), it is the lone block after
-- a full block (`longer-kind`), or it is another block (`canonical-kind`).
use Rattle.std.proofs.Common.{ℕ, List, ◌≡◌, ◌≢◌, ◌<◌, drop, length, get_or, arith, length-drop, take_all}
use Rattle.std.proofs.lemmas.List.{drop_more, drop-drop}
use Rattle.std.proofs.lemmas.List.Elements.{All-get_or}
use Rattle.cobs.specs.declared.dec.kind.FrameKind.TheVariants.{NotAFrame, Canonical}
use Rattle.cobs.proofs.decoding.HeadlineLemmas.{bytes_below}
use Rattle.cobs.proofs.format.FrameLemmas.{frame_nonzero}
use Rattle.cobs.proofs.format.KindLemmas.{says, one-more, broken-kind, longer-kind, canonical-kind}
use Rattle.cobs.proofs.dec.kind.frame_kind.Goals as goal

-- one of the bytes is a zero, so the bytes aren't a frame
pub returns-then-position_or_len-bytes : goal.returns-then-position_or_len-bytes
returns-then-position_or_len-bytes c =
    let bytes : List ℕ = c.args.bytes.now in
    let more = c.if-position_or_len-bytes.true in
    -- no byte of a frame is a zero (`frame_nonzero`), but the byte that was found is a zero (`stop`)
    says bytes NotAFrame (λ frame. All-get_or (λ b. b ≢ 0) bytes _ 0 more (frame_nonzero bytes _ frame.1) (c.position_or_len.ensures.stop more))

-- the code of the block at index `read`
code_at : (bytes : List ℕ) (read : ℕ) → read < length bytes → get_or (drop read bytes) 0 0 ≡ get_or bytes read 0
code_at bytes read within = grind (arith, drop_more)

-- no block comes before index 0, and `position_or_len` found no zero
pub by_block-init : goal.by_block-init
by_block-init c = grind (arith, bytes_below, take_all)

-- a whole block, which other bytes follow
pub by_block-preserved : goal.by_block-preserved
by_block-preserved c =
    let bytes : List ℕ = c.args.bytes.now in
    let read : ℕ = c.by_block.read in
    let is = code_at bytes read (omega arith) in
    -- more bytes are left than the code says, so the block with this code can be skipped (`one-more`)
    let more = one-more _ _ _ c.by_block.invariant.1 (omega (arith, is, length-drop read bytes)) in
    (omega arith, rw (is, drop-drop (get_or bytes read 0) read bytes) at more)

-- the last block breaks off
pub returns-then-left-code : goal.returns-then-left-code
returns-then-left-code c =
    let is = code_at c.args.bytes.now c.by_block.read (omega arith) in
    -- fewer bytes are left than the code says
    says c.args.bytes.now NotAFrame (broken-kind _ _ _ c.by_block.invariant.1 (λ some. omega (arith, is, length-drop c.by_block.read c.args.bytes.now)))

-- the last block is the lone block, after a full block
pub returns-then-code-eq1 : goal.returns-then-code-eq1
returns-then-code-eq1 c = grind (arith, code_at, length-drop, says, longer-kind)

-- the last block is whole, and isn't the lone block after a full block
pub returns-else-after_full : goal.returns-else-after_full
returns-else-after_full c =
    let is = code_at c.args.bytes.now c.by_block.read (omega arith) in
    let rest = length-drop c.by_block.read c.args.bytes.now in
    -- exactly the bytes of the block are left; after a full block, more than one byte is left (last argument)
    says c.args.bytes.now Canonical (canonical-kind _ _ _ c.by_block.invariant.1 (omega arith) (omega (arith, is, rest)) (λ full one. grind (arith, rest)))

-- there are no bytes
pub returns : goal.returns
-- `broken-kind` is also for the case that no byte is left, as here
returns c = says c.args.bytes.now NotAFrame (broken-kind _ _ _ c.by_block.invariant.1 (λ some. omega (arith, length-drop c.by_block.read c.args.bytes.now)))
