-- The bytes that were read so far are in the vector, and they are at most `max_input`. The loop ends, because each
-- iteration reads at least one byte.
use Rattle.std.proofs.Common.{◌≤◌, ◌-◌, vec_len}
use Rattle.std.specs.Io.KnownBytes.{Consumes}
use Rattle.cobs_tool.specs.Input.{max_input}
use Rattle.cobs_tool.proofs.input.read_input.Given as goal

abbrev pub invariant-by_read : goal.invariant-by_read
invariant-by_read g l = record {
  within : vec_len l.bytes ≤ max_input;
  read_so_far : Consumes (g.R.Read.remaining l.fn.input) (g.R.Read.remaining l.input) l.bytes.items;
}

abbrev pub decreases-by_read : goal.decreases-by_read
decreases-by_read g l = max_input - vec_len l.bytes
