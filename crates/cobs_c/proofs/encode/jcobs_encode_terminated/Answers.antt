-- `try_encode` got the buffer without its last byte, so there is room for the zero after the frame
-- (`Writes-terminated`).
use Rattle.std.proofs.Common.{◌≢◌, ◌-◌, ℕ, List, length, take, length-take-le, refl, sym, ◌∙◌, subst, arith}
use Rattle.std.proofs.lemmas.Bool.{eqb-false}
use Rattle.cobs.specs.Grammar.{IsEncodedFrame}
use Rattle.cobs_c.proofs.WritesLemmas.{Writes-ok_by, Writes-terminated}
use Rattle.cobs_c.proofs.FinishLemmas.{xor_each-zero}
use Rattle.cobs_c.specs.Encode.{Encodes}
use Rattle.cobs_c.specs.declared.answer.Answer.{Answer}
use Rattle.cobs_c.specs.declared.answer.TheConstants.{OK}
use Rattle.cobs_c.proofs.encode.jcobs_encode_terminated.Goals as goal

pub returns-in-Ok : goal.returns-in-Ok
returns-in-Ok c =
    -- the buffer isn't empty, and without its last byte it has `last` bytes
    let some : length c.args.frame.now ≢ 0 = eqb-false _ 0 (sym c.is_empty.ensures ∙ c.if-is_empty.false) in
    let last : ℕ = length c.args.frame.now - 1 in
    let front = length-take-le last c.args.frame.now (omega arith) in
    let e = c.in-Ok.ensures in
    let result : Answer = record { status = OK; consumed = length c.args.message.now; length = c.in-Ok.length } in
    let written : Encodes c.args.message.now (take last c.args.frame.now) result c.try_encode.new.dest =
    Writes-ok_by e.len (e.fits.0 refl) (e.frame, e.no_sentinel) e.rest in
    record {
      -- a frame f is also the frame for the sentinel 0, because XOR with 0 changes no byte
      encodes = rw c.done.ensures (Writes-terminated last 0 (omega (arith, some)) (omega (arith, front, c.try_encode.auto.dest)) written refl
          (λ (f : List ℕ) w. (f, (subst (λ (g : List ℕ). IsEncodedFrame g c.args.message.now) (sym (xor_each-zero f)) w.0, w.1), refl)));
    }
