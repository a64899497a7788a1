-- The bytes before the first sentinel, XORed with it, are the head of the XORed source. So the number of consumed bytes
-- is that of the postcondition (`front-end`).
use Rattle.std.proofs.Common.{◌∙◌, ℕ, length, Ok, ap, sym}
use Rattle.cobs.specs.Sentinel.{xor_each}
use Rattle.cobs_c.proofs.AnswerLemmas.{answer-refused}
use Rattle.cobs_c.proofs.HeadLemmas.{front-end}
use Rattle.cobs_c.specs.Answer.{result_by, head_end}
use Rattle.cobs_c.proofs.decode.jcobs_decode_with_sentinel.Goals as goal

pub returns-in-Ok : goal.returns-in-Ok
returns-in-Ok c =
    let n : ℕ = length c.args.message.now in
    let consumed = c.min-consumed.ensures ∙ front-end c.args.source.now c.first_sentinel.result c.args.sentinel c.first_sentinel.ensures.head in
    record {
      decodes = record {
        returned = c.done.ensures ∙ ap (λ (k : ℕ). result_by k n (Ok c.in-Ok.length)) consumed ∙ ap (result_by (head_end (xor_each c.args.sentinel c.args.source.now)) n) (sym c.in-Ok.is ∙ c.decode_with_sentinel.ensures.answer);
        buffer = c.decode_with_sentinel.ensures.buffer;
      };
    }

pub returns-in-Err : goal.returns-in-Err
returns-in-Err c =
    let n : ℕ = length c.args.message.now in
    let consumed = c.min-consumed.ensures ∙ front-end c.args.source.now c.first_sentinel.result c.args.sentinel c.first_sentinel.ensures.head in
    record {
      decodes = record {
        returned = answer-refused c.min-consumed.result (length c.decode_with_sentinel.new.dest) c.in-Err.is c.reported.ensures.end c.answer_of.ensures
            ∙ ap (λ (k : ℕ). result_by k (length c.decode_with_sentinel.new.dest) c.decode_with_sentinel.result) consumed
            ∙ ap (λ (k : ℕ). result_by (head_end (xor_each c.args.sentinel c.args.source.now)) k c.decode_with_sentinel.result) c.decode_with_sentinel.auto.dest
            ∙ ap (result_by (head_end (xor_each c.args.sentinel c.args.source.now)) n) c.decode_with_sentinel.ensures.answer;
        buffer = c.decode_with_sentinel.ensures.buffer;
      };
    }
