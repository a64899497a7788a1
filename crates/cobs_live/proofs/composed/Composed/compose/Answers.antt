-- If `put_message` succeeded, the composed text is the message in its style (`of_ok`). Without colour, number and time,
-- this is the text of the piece in the view (`bare-view`). `done` says that `compose` returned true.
use Rattle.std.proofs.Common.{sym, ◌∙◌, rules}
use Rattle.cobs_lines.proofs.DigitLemmas.{of_ok}
use Rattle.cobs_live.specs.Composed.{contents_of}
use Rattle.cobs_live.specs.Seen.{seen_in}
use Rattle.cobs_live.proofs.ComposedLemmas.{bare-view}
use Rattle.cobs_live.proofs.composed.Composed.compose.Goals as goal

pub returns : goal.returns
unfolding contents_of
returns c = record { shown = λ done. of_ok c.put_message.result (sym c.is_ok.ensures.value ∙ done) (c.put_message.ensures.put c.args.times.now) ∙ sym (bare-view c.args.view.now c.args.number c.args.times.now (seen_in c.args.piece.now) (search rules) (search rules) (search rules) (search rules)) }
