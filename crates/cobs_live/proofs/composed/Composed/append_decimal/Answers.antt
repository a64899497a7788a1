-- A number below 10 is written as one digit (`decimal_digit`).
use Rattle.std.proofs.lemmas.Fmt.{decimal_digit}
use Rattle.cobs_live.proofs.composed.Composed.append_decimal.Goals as goal

pub returns-then-number-lt10-clause-text : goal.returns-then-number-lt10-clause-text
returns-then-number-lt10-clause-text c = rw (decimal_digit c.args.number c.if-number-lt10.true) c.append.ensures.text
