-- The bytes up to the first zero are the head of the buffer (`front_is_head`), so the result of
-- `decode_blocks_in_place` for these bytes gives the report (`in_place_report-decoded`), or an error if the frame is
-- broken (`in_place_report-rejected`). On each path through the function, the clauses follow from the report and the
-- buffer (`in_place_clauses`).
use Rattle.std.proofs.Common.{arith, rules, length-take-le}
use Rattle.cobs.proofs.decoding.HeadLemmas.{front_is_head}
use Rattle.cobs.proofs.decoding.HeadlineLemmas.{bytes_below, in_place_clauses}
use Rattle.cobs.proofs.decoding.OutcomeSteps.{in_place_report-rejected, in_place_report-decoded}
use Rattle.cobs.proofs.dec.in_place.decode_in_place_report.Goals as goal

-- `decode_blocks_in_place` returned an error
pub returns-in_err-frame_size : goal.returns-in_err-frame_size
returns-in_err-frame_size c =
    -- the bytes before `end` are the head of the buffer
    let e = c.position_or_len-end.ensures in
    let front = front_is_head _ _ e.within e.before e.stop in
    in_place_clauses _ _ _ (grind (arith, in_place_report-rejected)) (grind arith) (bytes_below _ (search rules))

-- `decode_blocks_in_place` returned the message's length
pub returns : goal.returns
returns c =
    let e = c.position_or_len-end.ensures in
    let front = front_is_head _ _ e.within e.before e.stop in
    in_place_clauses _ _ _ (grind (arith, in_place_report-decoded, length-take-le)) (grind arith) (bytes_below _ (search rules))
