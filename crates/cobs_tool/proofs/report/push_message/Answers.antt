-- If the message is empty, the pushed text is the fixed line of the empty message (`outcome_line-empty`,
-- `pushed_line`). The tactics prove the other case.
use Rattle.std.proofs.Common.{sym, ◌∙◌}
use Rattle.std.proofs.lemmas.Bool.{eqb-true}
use Rattle.cobs_tool.proofs.ReportLemmas.{outcome_line-empty, pushed_line}
use Rattle.cobs_tool.proofs.report.push_message.Goals as goal

pub returns-then-is_empty : goal.returns-then-is_empty
returns-then-is_empty c =
    pushed_line _ _ _ _ _ (outcome_line-empty c.args.message.now (eqb-true _ _ (sym c.is_empty.ensures ∙ c.if-is_empty.true))) c.push_str.ensures.bytes
