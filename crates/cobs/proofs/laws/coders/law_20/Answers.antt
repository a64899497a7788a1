-- How to find the output of a piece, block by block. `front-whole` and `front-kept` are about a block before other
-- bytes, `output-last` and `block-whole` about a single block, `broken-part` and `kept-broken` about bytes that are
-- fewer than the first code says, and `all-kept` about a whole piece.
use Rattle.std.proofs.Common.{arith}
use Rattle.cobs.proofs.decoding.KeptLemmas.{all-kept, block-whole, broken-part, front-kept, front-whole, kept-broken}
use Rattle.cobs.proofs.decoding.PieceCuts.{output-last}
use Rattle.cobs.proofs.laws.coders.law_20.Goals as goal

pub returns : goal.returns
returns c = grind (arith, output-last, block-whole, front-whole, front-kept, broken-part, kept-broken, all-kept)
