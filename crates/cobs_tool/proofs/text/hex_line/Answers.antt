-- Each byte adds its digits to the line, after a space unless it is the first byte (`words_of-next`, `words_of-first`).
use Rattle.std.proofs.Common.{string_bytes, ◌++◌, ap, ◌∙◌, lit<}
use Rattle.cobs_tool.proofs.TextLemmas.{words_of-first, words_of-next}
use Rattle.cobs_tool.proofs.text.hex_line.Goals.{then-at-gt0+in_ok-push, else-at-gt0}
use Rattle.cobs_tool.proofs.text.hex_line.Goals as goal

pub loop-at-preserved : goal.loop-at-preserved
loop-at-preserved c =
    -- the digits of the byte were pushed; the branch says whether a space was pushed before
    let written = c.in_ok-push_hex.ensures.digits in
    let within = c.loop-at-test.true in
    elim c.if-at-gt0.branch [
      -- a later byte, with a space before its digits
      | then-at-gt0+in_ok-push w ↦
          let space = ap (λ l. string_bytes c.loop-at.line ++ l) (w.in_ok-push.ensures.ascii (lit< tt)) in
          words_of-next _ _ _ _ _ w.if-at-gt0.true within c.loop-at.invariant (ap string_bytes w.line-is ∙ w.in_ok-push.ensures.bytes ∙ space) written
      -- the first byte
      | else-at-gt0 w ↦
          words_of-first _ _ _ _ w.if-at-gt0.false within (ap string_bytes w.line-is ∙ c.loop-at.invariant) written
    ]
