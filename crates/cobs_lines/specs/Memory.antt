-- Bytes in memory as the source of a stream.
use Rattle.std.specs.Prelude.{ℕ, ◌≡◌, List, take, drop, Option, Some}
use Rattle.cobs_lines.specs.declared.memory.InMemory.{InMemory}

-- the bytes that no read has returned yet
abbrev pub bytes_left : InMemory → List ℕ
bytes_left source = source.left.now

-- a read of a source, whose unread bytes are `before` before the read and `after` after it: the read returns the first
-- 64 bytes of `before`, or all of `before` if it is shorter
pub record TakesChunk (before : List ℕ) (read : Option (List ℕ)) (after : List ℕ) : Type 0 where
  pub gives : read ≡ Some (take 64 before)
  pub leaves : after ≡ drop 64 before
