-- The messages of the output so far, followed by those of the stream from index `at` on, are the messages of the whole
-- stream (`reported`). The output ends with a sentinel, the decoder is idle, and its buffer still has n bytes. The loop
-- ends, because each piece takes at least one byte.
use Rattle.std.proofs.Common.{◌≡◌, ◌≤◌, ◌-◌, ◌++◌, length, drop}
use Rattle.cobs.specs.Feed.{Idle}
use Rattle.cobs.specs.Laws.{IsAtSentinel}
use Rattle.cobs.specs.Stream.{stream_outcomes}
use Rattle.cobs_vectors.specs.Relayed.{messages_of}
use Rattle.cobs_vectors.proofs.clients.relay.Given as goal

abbrev pub invariant-by_piece : goal.invariant-by_piece
invariant-by_piece g l =
    let n = length (g.D.FrameDecoder.bytes l.fn.decoder) in
    record {
      within : l.at ≤ length l.stream;
      reported : stream_outcomes l.out.items n ++ messages_of (stream_outcomes (drop l.at l.stream) n) ≡ messages_of (stream_outcomes l.stream n);
      at_sentinel : IsAtSentinel l.out.items;
      idle : g.D.FrameDecoder.phase l.decoder ≡ Idle;
      len : length (g.D.FrameDecoder.bytes l.decoder) ≡ n;
    }

abbrev pub decreases-by_piece : goal.decreases-by_piece
decreases-by_piece g l = length l.stream - l.at
