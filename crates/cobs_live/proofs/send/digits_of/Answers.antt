-- If a byte is a digit, it comes after the digits so far, as `filter` has it for one more byte of the text
-- (`filter_more`). Without this file, the prover's own search would find the proofs too, but slowly.
use Rattle.std.proofs.Common.{◌∙◌, ◌∷◌, [], ◌++◌, ℕ, List, Vec, Global, get_or, ap, sym, append-nil}
use Rattle.std.proofs.lemmas.List.Elements.{filter_more}
use Rattle.cobs_live.specs.Sent.{is_digit}
use Rattle.cobs_live.proofs.send.digits_of.Goals as goal
use Rattle.cobs_live.proofs.send.digits_of.Goals.{then-is_digit+in_ok-push, else-is_digit}

pub by_byte-preserved : goal.by_byte-preserved
by_byte-preserved c =
    let byte : ℕ = get_or c.args.text.now c.by_byte.byte-index 0 in
    let more = filter_more is_digit c.args.text.now c.by_byte.byte-index 0 c.by_byte-test.true in
    elim c.if-is_digit.branch [
      -- the byte is a digit
      | then-is_digit+in_ok-push w ↦ (let is = sym c.is_digit.ensures.digit ∙ w.if-is_digit.true in
          ap (λ (v : Vec ℕ Global). v.items) w.digits-is ∙ w.in_ok-push.ensures.items
          ∙ ap (λ (ds : List ℕ). ds ++ byte ∷ []) c.by_byte.invariant ∙ sym (rw is at more))
      -- the byte isn't a digit
      | else-is_digit w ↦ (let is = sym c.is_digit.ensures.digit ∙ w.if-is_digit.false in
          ap (λ (v : Vec ℕ Global). v.items) w.digits-is ∙ c.by_byte.invariant ∙ sym (rw (is, append-nil) at more))
    ]
