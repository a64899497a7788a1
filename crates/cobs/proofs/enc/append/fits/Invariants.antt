-- The frame fits if and only if the remaining bytes fit with `left` spare bytes. This follows from `total`: the open
-- block had `fn.taken` bytes before the call, and its code is `code` after `byte-index` bytes are counted.
use Rattle.std.proofs.Common.{◌≡◌, ◌+◌, ◌<◌, drop}
use Rattle.cobs.specs.Length.{open_len}
use Rattle.cobs.proofs.enc.append.fits.Given as goal

abbrev pub invariant-by_byte : goal.invariant-by_byte
invariant-by_byte l = record {
  some : 0 < l.code;
  most : l.code < 256;
  more : 0 < l.left;
  total : open_len l.code (drop l.byte-index l.bytes) + l.fn.taken + l.spare + l.byte-index + 1 ≡ open_len (l.fn.taken + 1) l.bytes + l.code + l.left;
}
