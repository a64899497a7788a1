-- The messages among the outcomes of the first `at` bytes are counted (`counted`), and the decoder has taken these
-- bytes (`after`). p is the front of a piece that had been fed before the call. Each message needs at least one byte
-- (`few`), so the count doesn't overflow. The loop ends, because each push consumes at least one byte.
use Rattle.std.proofs.Common.{◌≡◌, ◌≤◌, ◌-◌, ◌++◌, ℕ, List, length, take}
use Rattle.cobs.specs.Feed.{DecoderAfter}
use Rattle.cobs.specs.Fields.Decoders.{owned_buffer, owned_phase}
use Rattle.cobs.specs.Stream.{stream_outcomes, unended}
use Rattle.cobs_vectors.specs.Relayed.{messages_of}
use Rattle.cobs_vectors.proofs.clients.count_messages.Given as goal

abbrev pub invariant-by_push : goal.invariant-by_push
invariant-by_push l =
    let n = length (owned_buffer l.fn.decoder) in
    record {
      within : l.at ≤ length l.bytes;
      few : l.count ≤ l.at;
      len : length (owned_buffer l.decoder) ≡ n;
      after : (p : List ℕ) → DecoderAfter (owned_buffer l.fn.decoder) (owned_phase l.fn.decoder) p → DecoderAfter (owned_buffer l.decoder) (owned_phase l.decoder) (unended (p ++ take l.at l.bytes));
      counted : (p : List ℕ) → DecoderAfter (owned_buffer l.fn.decoder) (owned_phase l.fn.decoder) p → l.count ≡ length (messages_of (stream_outcomes (p ++ take l.at l.bytes) n));
    }

abbrev pub decreases-by_push : goal.decreases-by_push
decreases-by_push l = length l.bytes - l.at
