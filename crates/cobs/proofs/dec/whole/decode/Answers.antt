-- The clauses follow from the result and the buffer of `decode_first` (`decode_clauses`). An empty source has no piece
-- (`first_piece_empty`), and the buffer stays as it is.
use Rattle.std.proofs.Common.{arith}
use Rattle.std.proofs.lemmas.Bool.{eqb-true}
use Rattle.cobs.proofs.decoding.HeadLemmas.{first_piece_empty}
use Rattle.cobs.proofs.decoding.HeadlineLemmas.{bytes_below, decode_clauses}
use Rattle.cobs.proofs.decoding.OutcomeSteps.{overwritten-none}
use Rattle.cobs.proofs.dec.whole.decode.Goals as goal

-- an empty source: nothing is written
pub returns-then-is_empty : goal.returns-then-is_empty
returns-then-is_empty c = decode_clauses _ c.args.dest.now _ _ (grind (arith, eqb-true)) (grind (arith, first_piece_empty, eqb-true, overwritten-none)) (bytes_below _ c.type_inv.source)

-- a source of zeros only
pub returns-in_default : goal.returns-in_default
returns-in_default c = decode_clauses _ c.args.dest.now _ _ (grind arith) (grind arith) (bytes_below _ c.type_inv.source)

pub returns-in-Message : goal.returns-in-Message
returns-in-Message c = decode_clauses _ c.args.dest.now _ _ (grind arith) (grind arith) (bytes_below _ c.type_inv.source)

pub returns-in-Broken : goal.returns-in-Broken
returns-in-Broken c = decode_clauses _ c.args.dest.now _ _ (grind arith) (grind arith) (bytes_below _ c.type_inv.source)

pub returns-in-TooLong : goal.returns-in-TooLong
returns-in-TooLong c = decode_clauses _ c.args.dest.now _ _ (grind arith) (grind arith) (bytes_below _ c.type_inv.source)
