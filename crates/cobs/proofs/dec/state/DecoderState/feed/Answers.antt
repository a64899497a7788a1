-- A row of the table is one step in the piece: a nonzero byte (`StateAfter-step`), or the zero that ends the piece
-- (`StateAfter-end`).
use Rattle.std.proofs.Common.{arith}
use Rattle.cobs.proofs.streaming.TableLemmas.{StateAfter-start, StateAfter-step, StateAfter-end}
use Rattle.cobs.proofs.dec.state.DecoderState.feed.Goals as goal

-- a nonzero byte
pub returns-clause-after : goal.returns-clause-after
returns-clause-after c = λ p so_far s some.
    -- the call returned the result and the state of the table's row, which `StateAfter-step` is about
    rw (c.row-returned.ensures.returned, c.row-returned.ensures.state) (StateAfter-step c.args.self.now p so_far c.args.byte c.ranges.byte.fits s some)

-- a zero: the result is `DataComplete`, and the data so far is m, if and only if the bytes so far are a frame of m
pub returns-clause-message : goal.returns-clause-message
returns-clause-message c = λ p so_far m s zero. rw (c.row-returned.ensures.returned, zero) (StateAfter-end c.args.self.now p so_far m s)

-- after a zero, the state is the one before a piece
pub returns-clause-idle : goal.returns-clause-idle
returns-clause-idle c = grind (arith, StateAfter-start)
