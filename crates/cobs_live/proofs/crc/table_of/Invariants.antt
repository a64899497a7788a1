-- The table has 256 words, and those for the numbers below `byte` are made (`word_of`).
use Rattle.std.proofs.Common.{◌≡◌, ◌<◌, ℕ, length}
use Rattle.std.specs.Prelude.{get_or}
use Rattle.cobs_live.specs.Crc.{word_of}
use Rattle.cobs_live.proofs.crc.table_of.Given as goal

abbrev pub invariant-by_byte : goal.invariant-by_byte
invariant-by_byte l = record {
  len : length l.words ≡ 256;
  made : (byte : ℕ) → byte < l.byte → get_or l.words byte 0 ≡ word_of l.poly byte;
}
