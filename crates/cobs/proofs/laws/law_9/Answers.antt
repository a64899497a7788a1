-- A stream may be cut anywhere: each field of `StreamLaw` is a lemma of `StreamLemmas`.
use Rattle.std.proofs.Common.{arith}
use Rattle.cobs.proofs.format.StreamLemmas.{ended_pieces-append, ended_pieces-piece, stream_outcomes-append, stream_outcomes-no_zero, unended-append, unended-no_zero, unended-zero, unended_no_zero}
use Rattle.cobs.proofs.laws.law_9.Goals as goal

pub returns : goal.returns
returns c = grind (arith, stream_outcomes-append, unended-append, unended-zero, unended_no_zero, unended-no_zero, stream_outcomes-no_zero, ended_pieces-append, ended_pieces-piece)
