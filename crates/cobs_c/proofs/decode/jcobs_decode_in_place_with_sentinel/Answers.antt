-- The bytes before the first sentinel, XORed with it, are the head of the XORed buffer. So the result and the buffer
-- are those of that head (`front-end`, `front-result`, `front-buffer`). If no byte precedes the sentinel, nothing is
-- decoded (`sentinel-result`, `sentinel-buffer`).
use Rattle.std.proofs.Common.{◌∙◌, ◌++◌, ℕ, List, length, drop, ap, sym, Ok}
use Rattle.cobs_c.proofs.AnswerLemmas.{answer-refused}
use Rattle.cobs_c.specs.Answer.{result_by, head_end}
use Rattle.cobs.specs.Sentinel.{xor_each}
use Rattle.cobs_c.proofs.HeadLemmas.{front-result, front-buffer, front-end, sentinel-result, sentinel-buffer}
use Rattle.cobs_c.proofs.decode.jcobs_decode_in_place_with_sentinel.Goals as goal

-- the buffer begins with the sentinel
pub returns-then-room-ne0 : goal.returns-then-room-ne0
returns-then-room-ne0 c =
    let is = c.first_sentinel-end.ensures.head in
    let buffer : List ℕ = c.args.buffer.now in
    record {
      decodes = record {
        -- one byte is consumed, the sentinel, and the message is empty; nothing is written
        returned = c.done.ensures ∙ sentinel-result buffer _ c.args.sentinel is c.if-end-eq0.true c.if-room-ne0.true (length buffer);
        buffer = sentinel-buffer buffer _ c.args.sentinel is c.if-end-eq0.true c.if-room-ne0.true;
      };
    }

-- all other buffers, if the frame is whole
pub returns-in-Ok : goal.returns-in-Ok
returns-in-Ok c =
    let is = c.first_sentinel-end.ensures.head in
    let end : ℕ = c.first_sentinel-end.result in
    let buffer : List ℕ = c.args.buffer.now in
    let n : ℕ = length buffer in
    record {
      decodes = record {
        -- the number of consumed bytes (`front-end`), and then the result (`front-result`)
        returned = c.done-in-Ok.ensures
            ∙ ap (λ (k : ℕ). result_by k n (Ok c.in-Ok.length)) (c.min-consumed.ensures ∙ front-end buffer end c.args.sentinel is)
            ∙ ap (result_by (head_end (xor_each c.args.sentinel buffer)) n) (sym c.in-Ok.is ∙ c.decode_in_place_with_sentinel.ensures.answer ∙ front-result buffer end c.args.sentinel is c.else-end-eq0.either);
        -- only the bytes before the sentinel were decoded in place; the other bytes are unchanged
        buffer = ap (λ (x : List ℕ). x ++ drop end buffer) c.decode_in_place_with_sentinel.ensures.buffer ∙ front-buffer buffer end c.args.sentinel is;
      };
    }

-- all other buffers, if the frame is broken
pub returns-in-Err : goal.returns-in-Err
returns-in-Err c =
    let is = c.first_sentinel-end.ensures.head in
    let end : ℕ = c.first_sentinel-end.result in
    let buffer : List ℕ = c.args.buffer.now in
    let n : ℕ = length buffer in
    record {
      decodes = record {
        returned = answer-refused c.min-consumed.result n c.in-Err.is c.reported.ensures.end c.answer_of.ensures
            ∙ ap (λ (k : ℕ). result_by k n c.decode_in_place_with_sentinel.result) (c.min-consumed.ensures ∙ front-end buffer end c.args.sentinel is)
            ∙ ap (result_by (head_end (xor_each c.args.sentinel buffer)) n) (c.decode_in_place_with_sentinel.ensures.answer ∙ front-result buffer end c.args.sentinel is c.else-end-eq0.either);
        buffer = ap (λ (x : List ℕ). x ++ drop end buffer) c.decode_in_place_with_sentinel.ensures.buffer ∙ front-buffer buffer end c.args.sentinel is;
      };
    }
