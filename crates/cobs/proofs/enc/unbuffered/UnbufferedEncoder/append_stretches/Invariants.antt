-- The first `read` bytes of the source are taken: between two pieces `TakesFront` says so, and within a piece
-- `Reaches`. The open block has room for the rest of the piece (`short`). Once a byte of the piece is taken, the frame
-- doesn't end in a full block. The outer loop ends, because each piece has at least one byte.
use Rattle.std.proofs.Common.{length, ◌-◌, ◌≡◌, ◌<◌, ◌≤◌, ◌+◌, ◌==◌, not, false}
use Rattle.cobs.specs.OpenBlock.{place_at}
use Rattle.cobs.specs.Fields.Progress.{reached_by}
use Rattle.cobs.specs.Internal.Reaches.{Reaches, start_with}
use Rattle.cobs.specs.Internal.Taking.{TakesFront}
use Rattle.cobs.proofs.enc.unbuffered.UnbufferedEncoder.append_stretches.Given as goal

abbrev pub invariant-by_byte : goal.invariant-by_byte
invariant-by_byte l = record {
  within : l.end ≤ length l.bytes;
  ordered : l.read ≤ l.end;
  some : 0 < l.copied + (l.end - l.read);
  short : l.next + (l.end - (l.read + l.byte-index)) ≤ l.index + 255;
  reaches : Reaches (start_with l.fn.dest (reached_by l.fn.self) l.bytes) l.dest (l.read + l.byte-index) l.index l.next (λ full. 0 < l.copied + l.byte-index → full ≡ false);
}

abbrev pub invariant-by_piece : goal.invariant-by_piece
invariant-by_piece l = record {
  within : l.read ≤ length l.bytes;
  taken : TakesFront l.fn.dest (reached_by l.fn.self) l.bytes l.read l.dest (place_at l.index (l.next - l.index) (not (l.full == 0)));
}

abbrev pub decreases-by_piece : goal.decreases-by_piece
decreases-by_piece l = length l.bytes - l.read
