-- `found` has the pieces that ended in t, and `begun` has the bytes of t that no zero has ended. t is the bytes that
-- were begun before the call, and then the bytes of the chunk that the loop has gone through.
use Rattle.std.proofs.Common.{◌≡◌, ◌++◌, take}
use Rattle.cobs.specs.Messages.{messages_in}
use Rattle.cobs.specs.Stream.{ended_pieces, unended}
use Rattle.cobs_vectors.proofs.clients.pieces_in.Given as goal

abbrev pub invariant-by_byte : goal.invariant-by_byte
invariant-by_byte l =
    let t = l.fn.begun.items ++ take l.byte-index l.chunk in
    (messages_in l.found.items ≡ ended_pieces t) × (l.begun.items ≡ unended t)
