-- The call that ends the message got the buffer without its last byte, so there is room for the sentinel after the
-- frame (`Finishes-ended`).
use Rattle.std.proofs.Common.{◌≢◌, ◌-◌, ◌∙◌, ℕ, List, length, length-take-le, refl, sym, arith}
use Rattle.std.proofs.lemmas.Bool.{eqb-false}
use Rattle.cobs_c.proofs.FinishLemmas.{Finishes-ended}
use Rattle.cobs_c.proofs.encoder.jcobs_encoder_finish_terminated_with_sentinel.Goals as goal

pub returns : goal.returns
returns c =
    -- the buffer isn't empty, and without its last byte it has `last` bytes
    let some : length c.args.buffer.now ≢ 0 = eqb-false _ 0 (sym c.is_empty.ensures ∙ c.if-is_empty.false) in
    let last : ℕ = length c.args.buffer.now - 1 in
    let whole = length-take-le last c.args.buffer.now (omega arith) in
    let f = c.jcobs_encoder_finish_with_sentinel-written.ensures.finishes in
    -- a frame for the sentinel, followed by the sentinel, is a terminated frame by definition
    record { finishes = Finishes-ended c.law_2.ensures.len c.law_13.ensures.end last c.args.sentinel (omega (arith, some)) (f.len ∙ whole) f (λ (x m : List ℕ) w. (x, w, refl)) c.terminated.ensures.ok c.terminated.ensures.other }
