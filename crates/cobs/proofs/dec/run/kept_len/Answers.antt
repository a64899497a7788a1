-- The field `ends` of the invariant says that a block of the piece ends before index `at`. Each iteration passes a whole
-- block (`ends-next`), so `ends` still holds. If the last block breaks off, the kept output is the output of the bytes up
-- to and including the code of this block (`broken-kept`); otherwise all output is kept (`whole-kept`).
use Rattle.std.proofs.Common.{◌≡◌, ◌≢◌, ◌+◌, ◌<◌, ◌≤◌, ℕ, List, length, take, get_or, bit_xor, arith}
use Rattle.std.proofs.lemmas.List.{length-map, get_or-map, take_all}
use Rattle.std.proofs.lemmas.List.Elements.{All-get_or}
use Rattle.cobs.specs.Grammar.{HasNoZero}
use Rattle.cobs.specs.Piece.{kept_output, last_part, missing, output}
use Rattle.cobs.specs.Sentinel.{xor_each}
use Rattle.cobs.proofs.decoding.PieceLemmas.{last_part-empty}
use Rattle.cobs.proofs.decoding.TailLemmas.{ends-next, broken-last, broken-kept, whole-kept}
use Rattle.cobs.proofs.dec.run.kept_len.Goals as goal

-- the XORed byte at index `at` is the byte of the piece
coded : (bytes : List ℕ) (s at : ℕ) → at < length bytes → bit_xor (get_or bytes at 0) s ≡ get_or (xor_each s bytes) at 0
coded bytes s at here = grind (arith, get_or-map, bit_xor)

-- it isn't 0
some : (bytes : List ℕ) (s at : ℕ) → at < length bytes → HasNoZero (xor_each s bytes) → 0 < bit_xor (get_or bytes at 0) s
some bytes s at here none = grind (arith, length-map, bit_xor, coded, All-get_or)

-- a block ends before index `at` of the piece, so the code of the next block is at this index
module _ (bytes : List ℕ) (s at : ℕ) (here : at < length bytes) (ends : missing (last_part (take at (xor_each s bytes))) ≡ 0) where
  abbrev code : ℕ
  code = bit_xor (get_or bytes at 0) s

  -- if the next block is whole, a block ends after it
  next : 0 < code → at + code ≤ length bytes → missing (last_part (take (at + code) (xor_each s bytes))) ≡ 0
  next positive fits = grind (arith, ends-next, coded, length-map)

  -- the next block breaks off
  module _ (short : length bytes < at + code) where
    -- the kept output is that of the bytes up to and including the code of this block
    kept : output (take (at + 1) (xor_each s bytes)) ≡ kept_output (xor_each s bytes)
    kept = grind (arith, broken-kept, coded, length-map)

    -- bytes of the last block are missing
    broken : missing (last_part (xor_each s bytes)) ≢ 0
    broken = grind (arith, broken-last, coded, length-map)

-- no byte is passed yet
pub by_block-init : goal.by_block-init
by_block-init c = grind (arith, last_part-empty)

-- the iteration passes a whole block
pub by_block-preserved : goal.by_block-preserved
by_block-preserved c = grind (arith, next, some)

-- each iteration passes at least one byte, because a code isn't 0
pub by_block-smaller : goal.by_block-smaller
by_block-smaller c = grind (arith, some)

-- the last block breaks off: its code is the last byte to be decoded
pub returns-then-bytes-at-clause-kept : goal.returns-then-bytes-at-clause-kept
returns-then-bytes-at-clause-kept c = grind (arith, kept)

-- the last block breaks off, so the piece isn't whole
pub returns-then-bytes-at-clause-whole : goal.returns-then-bytes-at-clause-whole
returns-then-bytes-at-clause-whole c = grind (arith, broken)

-- the last block is whole: all bytes are to be decoded
pub returns-clause-kept : goal.returns-clause-kept
returns-clause-kept c = grind (arith, take_all, length-map, whole-kept)

-- the last block is whole, so the piece is whole
pub returns-clause-whole : goal.returns-clause-whole
returns-clause-whole c = grind (arith, take_all, length-map)
