-- If `decode_first` found a piece, its result meets `Decodes` (`found`).
use Rattle.std.proofs.Common.{◌≡◌, ◌∙◌, ℕ, List, length, Some, ap}
use Rattle.cobs_c.proofs.PieceLemmas.{found}
use Rattle.cobs_c.specs.Answer.{result_by, size_by}
use Rattle.cobs_c.proofs.decode.jcobs_decode.Goals as goal

pub returns-in-Some : goal.returns-in-Some
returns-in-Some c =
    let source : List ℕ = c.args.source.now in
    let message : List ℕ = c.args.message.now in
    -- the postcondition for the result of `answer_of`, which is told the length of the buffer after the call
    let same : c.answer_of.result ≡ result_by c.in-Some.consumed (length message) (size_by (Some c.in-Some.end)) = c.answer_of.ensures ∙ ap (λ (k : ℕ). result_by c.in-Some.consumed k (size_by (Some c.in-Some.end))) c.decode_first.auto.dest in
    record { decodes = rw same (found source message c.decode_first.new.dest c.in-Some.ensures.buffer c.law_1.ensures.within c.in-Some.end c.in-Some.consumed c.in-Some.ensures.answer) }
