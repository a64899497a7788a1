-- As many bytes of the status's text as fit are copied, followed by a zero. `words-written` shows that these are the
-- bytes that the clause `text` states.
use Rattle.std.proofs.Common.{◌≢◌, ◌++◌, ◌-◌, ℕ, List, length, min, take, drop, set, sym, ap, ◌∙◌, arith}
use Rattle.std.proofs.lemmas.Bool.{eqb-false}
use Rattle.cobs_c.specs.Text.{words}
use Rattle.cobs_c.proofs.BufferLemmas.{words-written}
use Rattle.cobs_c.proofs.text.jcobs_strerror.Goals as goal

pub returns-clause-text : goal.returns-clause-text
returns-clause-text c =
    -- the buffer isn't empty, and the copied bytes are those of `words`, the text of the status (`same`)
    let some : length c.args.text.now ≢ 0 = eqb-false _ 0 (sym c.is_empty.ensures ∙ c.if-is_empty.false) in
    let same = c.as_bytes-words.ensures.value ∙ c.words.ensures in
    -- the buffer with the first `end` bytes of the text and a zero is the buffer that the clause states
    let e = words-written c.args.text.now (words c.args.status) c.min-end.result (omega arith) (c.min-end.ensures ∙ ap (λ (w : List ℕ). min (length w) (length c.args.text.now - 1)) same) in
    -- the bytes that were copied are the first `end` bytes of this text (`after`, `same`)
    ap (λ (l : List ℕ). set (l ++ drop c.min-end.result c.args.text.now) c.min-end.result 0) (c.copy_from_slice.ensures.after ∙ ap (take c.min-end.result) same) ∙ e
