-- The bytes of one step in place are fed quietly (`FeedsQuietly`): only a code, a case that the tactics prove, or a span
-- that was moved and that `take_moved` takes (`copied-there`).
use Rattle.std.proofs.Common.{ℕ, List, take, drop, arith, length-drop, sym}
use Rattle.std.proofs.lemmas.List.{length-take-le}
use Rattle.cobs.proofs.streaming.SpanLemmas.{copied-there}
use Rattle.cobs.proofs.dec.unbuffered.UnbufferedDecoder.take_part_in_place.Goals as goal
use Rattle.cobs.proofs.bytes.ListLemmas.{part-nonzero}

-- the moved bytes are the next n bytes of the frame, so none of them is a zero
pub take_moved-requires-clause-nonzero : goal.take_moved-requires-clause-nonzero
take_moved-requires-clause-nonzero c =
    let n : ℕ = c.span_len-len.result in
    let bytes : List ℕ = drop c.args.read c.args.buffer.now in
    let long = length-take-le n bytes (omega (arith, length-drop c.args.read c.args.buffer.now)) in
    -- after the move, the bytes after the output are the next n bytes of the frame (`copied-there`)
    rw (sym (copied-there c.args.self.now.written n c.args.buffer.now c.move_back.new.buffer (take n bytes) (omega arith) long c.move_back.ensures)) at (part-nonzero 0 n _ bytes c.requires.nonzero (omega arith))

-- a span, which `take_moved` takes
pub returns-clause-fed : goal.returns-clause-fed
returns-clause-fed c = grind (arith, length-take-le, length-drop)
