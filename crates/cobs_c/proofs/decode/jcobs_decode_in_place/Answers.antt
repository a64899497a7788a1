-- If the frame is broken, the bytes from the reported length on are unchanged, so the first zero among them is the first
-- zero of the buffer (`refused-rest`, `refused-end`).
use Rattle.std.proofs.Common.{◌-◌, take, take_all, ◌≡◌, ◌∙◌, ◌+◌, ◌≤◌, ℕ, List, length, drop, min, refl, sym, ap, arith, Result, Ok, Err, length-drop, rules}
use Rattle.cobs.specs.Decode.{result_in_place}
use Rattle.cobs.specs.Stream.{head}
use Rattle.cobs.proofs.bytes.XoredLemmas.{xor_each-zero}
use Rattle.cobs_c.proofs.HeadLemmas.{refused-answer, refused-end, refused-rest}
use Rattle.cobs.proofs.decoding.OutcomeLemmas.{length-head}
use Rattle.cobs.specs.declared.DecodeError.{DecodeError}
use Rattle.cobs.specs.declared.DecodeError.TheVariants.{EmptyFrame, InvalidFrame, TargetBufTooSmall}
use Rattle.cobs_c.specs.Answer.{result_by, head_end}
use Rattle.cobs_c.specs.declared.answer.Answer.{Answer}
use Rattle.cobs_c.proofs.decode.jcobs_decode_in_place.Goals as goal

-- the number of consumed bytes decides only the field `consumed`
consumed-any : (r : Result ℕ DecodeError) (n k : ℕ) → (let a = result_by 0 n r in record { status = a.status; consumed = k; length = a.length }) ≡ result_by k n r
consumed-any (Ok size) n k = refl
consumed-any (Err EmptyFrame) n k = refl
consumed-any (Err (InvalidFrame count)) n k = refl
consumed-any (Err TargetBufTooSmall) n k = refl

pub overflow_add-parsed_size : goal.overflow_add-parsed_size
overflow_add-parsed_size c =
    let parsed : c.parsed_size.result ≤ length c.args.buffer.now = grind (arith, length-head) in
    search rules

pub slice_bounds-first_sentinel-count : goal.slice_bounds-first_sentinel-count
slice_bounds-first_sentinel-count c =
    let rest = refused-rest c.args.buffer.now c.decode_in_place_report.new.buf c.in-Err.error c.reported.result c.answer_of-broken.result (sym c.in-Err.is ∙ c.decode_in_place_report.ensures.answer) c.reported.ensures.end c.answer_of-broken.ensures c.decode_in_place_report.ensures.buffer in
    omega (arith, rest.0, length-head c.args.buffer.now, c.decode_in_place_report.auto.buf)

pub slice_bounds-first_sentinel-start : goal.slice_bounds-first_sentinel-start
slice_bounds-first_sentinel-start c =
    let count = slice_bounds-first_sentinel-count c in
    search rules

pub overflow_add-end-in-Err : goal.overflow_add-end-in-Err
overflow_add-end-in-Err c =
    let rest = refused-rest c.args.buffer.now c.decode_in_place_report.new.buf c.in-Err.error c.reported.result c.answer_of-broken.result (sym c.in-Err.is ∙ c.decode_in_place_report.ensures.answer) c.reported.ensures.end c.answer_of-broken.ensures c.decode_in_place_report.ensures.buffer in
    let within : c.answer_of-broken.result.length + c.first_sentinel.result ≤ length c.args.buffer.now = omega (arith, rest.0, length-head c.args.buffer.now, c.decode_in_place_report.auto.buf, c.first_sentinel.ensures.within, length-drop c.answer_of-broken.result.length c.decode_in_place_report.new.buf) in
    search rules

pub returns-in-Err : goal.returns-in-Err
returns-in-Err c =
    let source : List ℕ = c.args.buffer.now in
    let broken = c.answer_of-broken.result in
    let is = sym c.in-Err.is ∙ c.decode_in_place_report.ensures.answer in
    let answer = refused-answer source c.decode_in_place_report.new.buf c.in-Err.error c.reported.result c.answer_of-broken.result is c.reported.ensures.end c.answer_of-broken.ensures in
    let rest = refused-rest source c.decode_in_place_report.new.buf c.in-Err.error c.reported.result c.answer_of-broken.result is c.reported.ensures.end c.answer_of-broken.ensures c.decode_in_place_report.ensures.buffer in
    -- the bytes that were searched are those from the end of the output on, and they are unchanged
    let all : take (length c.decode_in_place_report.new.buf - c.answer_of-broken.result.length) (drop c.answer_of-broken.result.length c.decode_in_place_report.new.buf) ≡ drop c.answer_of-broken.result.length source
    = take_all _ _ (omega (arith, length-drop c.answer_of-broken.result.length c.decode_in_place_report.new.buf)) ∙ rest.1 in
    let end : c.answer_of-broken.result.length + c.first_sentinel.result ≡ length (head source)
    = ap (λ (k : ℕ). c.answer_of-broken.result.length + k) (c.first_sentinel.ensures.head ∙ ap (λ (l : List ℕ). length (head l)) (xor_each-zero _ ∙ all))
    ∙ refused-end source c.answer_of-broken.result.length rest.0 in
    record {
      decodes = record {
        returned = ap (λ (k : ℕ). record { status = c.answer_of-broken.result.status; consumed = k; length = c.answer_of-broken.result.length }) (c.min-in-Err.ensures ∙ ap (λ (k : ℕ). min (length source) (k + 1)) end)
            ∙ ap (λ (a : Answer). record { status = a.status; consumed = head_end source; length = a.length }) answer ∙ consumed-any (result_in_place source) (length source) (head_end source);
        buffer = c.decode_in_place_report.ensures.buffer;
      };
    }
