-- The three cases are the lemmas `open-full`, `open-more` and `open-zero` for the open block that an `EncoderState`
-- stands for (`view_is`). The clause `carried` is about any output of a caller. An open frame with a 0 in the place of
-- its last code is such an output, so the clause `after` follows from `carried`.
use Rattle.std.proofs.Common.{refl, arith}
use Rattle.cobs.proofs.encoding.OpenedLemmas.{open-zero, open-more, open-full}
use Rattle.cobs.proofs.enc.state.EncoderState.push.Goals as goal

-- the byte fills the open block
pub returns-then-self-clause-carried : goal.returns-then-self-clause-carried
returns-then-self-clause-carried c = λ m g x o. let o' = rw (← c.self.view_is) at o in rw c.full_code-code.ensures (open-full o' c.args.byte c.if-byte-ne0.true x (omega arith))

pub returns-then-self-clause-after : goal.returns-then-self-clause-after
returns-then-self-clause-after c = λ m o.
    let r = returns-then-self-clause-carried c m _ 0 (o.0, o.1, (0, refl)) in (r.0, r.1)

-- any other nonzero byte joins the open block
pub returns-then-byte-ne0-clause-carried : goal.returns-then-byte-ne0-clause-carried
returns-then-byte-ne0-clause-carried c = λ m g x o. let o' = rw (← c.self.view_is) at o in open-more o' c.args.byte c.if-byte-ne0.true (grind arith)

pub returns-then-byte-ne0-clause-after : goal.returns-then-byte-ne0-clause-after
returns-then-byte-ne0-clause-after c = λ m o.
    let r = returns-then-byte-ne0-clause-carried c m _ 0 (o.0, o.1, (0, refl)) in (r.0, r.1)

-- a zero closes the open block
pub returns-clause-carried : goal.returns-clause-carried
returns-clause-carried c = λ m g x o. let o' = rw (← c.self.view_is) at o in rw c.if-byte-ne0.false (open-zero o' x)

pub returns-clause-after : goal.returns-clause-after
returns-clause-after c = λ m o.
    let r = returns-clause-carried c m _ 0 (o.0, o.1, (0, refl)) in (r.0, r.1)
