-- The walk over the bytes before index `at` is done (`done`): these bytes have a zero over each code, the last code is
-- `code`, and its block ends at index `at`. If the block breaks off, all bytes are before `at`. The bytes from `at` on
-- are as they were (`rest`).
use Rattle.std.proofs.Common.{◌≡◌, ◌<◌, ◌-◌, ◌+◌, drop, length, take}
use Rattle.cobs.proofs.streaming.WalkLemmas.{IsWalked}
use Rattle.cobs.proofs.dec.run.write_zeros_at_codes.Given as goal

abbrev pub invariant-by_code : goal.invariant-by_code
invariant-by_code l = record {
  some : 0 < l.code;
  byte : l.code < 256;
  block : l.at < length l.dest + l.code;
  done : IsWalked (take l.at l.dest) l.code (l.at - length l.dest) l.first (l.first - 1) (take l.at l.fn.dest);
  rest : drop l.at l.dest ≡ drop l.at l.fn.dest;
}

-- each iteration passes at least one byte
abbrev pub decreases-by_code : goal.decreases-by_code
decreases-by_code l = length l.dest - l.at
