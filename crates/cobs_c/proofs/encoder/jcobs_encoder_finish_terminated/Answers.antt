-- `jcobs_encoder_finish` got the buffer without its last byte, so there is room for the zero after the frame
-- (`Finishes-ended`).
use Rattle.std.proofs.Common.{◌≢◌, ◌-◌, ◌∙◌, ℕ, List, length, length-take-le, refl, sym, subst, arith}
use Rattle.std.proofs.lemmas.Bool.{eqb-false}
use Rattle.cobs.specs.Grammar.{IsEncodedFrame}
use Rattle.cobs_c.proofs.FinishLemmas.{Finishes-ended, xor_each-zero}
use Rattle.cobs_c.proofs.encoder.jcobs_encoder_finish_terminated.Goals as goal

pub returns : goal.returns
returns c =
    -- the buffer isn't empty, and without its last byte it has `last` bytes
    let some : length c.args.buffer.now ≢ 0 = eqb-false _ 0 (sym c.is_empty.ensures ∙ c.if-is_empty.false) in
    let last : ℕ = length c.args.buffer.now - 1 in
    let whole = length-take-le last c.args.buffer.now (omega arith) in
    let f = c.jcobs_encoder_finish-written.ensures.finishes in
    -- a frame followed by a zero is a terminated frame for the sentinel 0, because XOR with 0 changes no byte
    record { finishes = Finishes-ended c.law_2.ensures.len c.law_13.ensures.end last 0 (omega (arith, some)) (f.len ∙ whole) f (λ (x m : List ℕ) w. (x, (subst (λ (g : List ℕ). IsEncodedFrame g m) (sym (xor_each-zero x)) w.0, w.1), refl)) c.terminated.ensures.ok c.terminated.ensures.other }
