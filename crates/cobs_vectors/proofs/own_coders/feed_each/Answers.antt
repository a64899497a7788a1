-- A byte that ends no piece continues the loop, by `byte` of `law_17`, and a byte that ends a piece is the last one, by
-- `end` of `law_17`.
-- `law_17`: A decoder of your own, byte by byte.
use Rattle.std.proofs.Common.{sym, ◌∙◌}
use Rattle.cobs_vectors.proofs.own_coders.feed_each.Goals as goal
use Rattle.cobs_vectors.proofs.own_coders.feed_each.Goals.{then-byte-eq0+in_default, else-byte-eq0}

-- before the first byte, no piece has ended, and nothing has changed
pub by_byte-init : goal.by_byte-init
by_byte-init c = c.law_17.ensures.nothing _ _

-- a byte that ends no piece; `on` is the field `byte` of `law_17` for this byte
pub by_byte-preserved : goal.by_byte-preserved
by_byte-preserved c =
    let on = c.law_17.ensures.byte c.args.bytes.now _ _ _ _ _ _ _ c.by_byte.i c.by_byte-test.true c.by_byte.invariant c.feed-returned.ensures.feeds in
    elim c.if-byte-eq0.branch [
      -- a zero for which the decoder reported no end of a piece
      | then-byte-eq0+in_default w ↦ on (λ _. sym w.reported.ensures.end ∙ w.in_default.is)
      -- a nonzero byte
      | else-byte-eq0 w ↦ on (λ zero. absurd (w.if-byte-eq0.false zero))
    ]

-- a zero that ends a piece
pub returns-in-Some : goal.returns-in-Some
returns-in-Some c =
    c.law_17.ensures.end c.args.bytes.now _ _ _ _ _ _ _ _ c.by_byte.i c.by_byte-test.true c.by_byte.invariant c.feed-returned.ensures.feeds c.if-byte-eq0.true (sym c.reported.ensures.end ∙ c.in-Some.is)
