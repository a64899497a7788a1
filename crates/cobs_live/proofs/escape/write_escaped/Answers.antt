-- Each iteration writes the front of the rest with `write_run` (`front-more`). When nothing is left (`none`), the whole
-- text is written (`front-end`).
use Rattle.std.proofs.Common.{◌≡◌, length, arith}
use Rattle.cobs_live.proofs.EscapeLemmas.{front-end, front-more}
use Rattle.cobs_live.proofs.escape.write_escaped.Goals as goal

-- one iteration more
pub by_run-preserved : goal.by_run-preserved
by_run-preserved g c = grind (arith, front-more)

-- after the loop
pub returns : goal.returns
returns g c =
    let none : length c.by_run.rest.now ≡ 0 = grind (arith, c.is_empty.ensures, c.by_run-test.false) in
    record { written = front-end c.by_run.invariant.1 none }
