-- With the open block's code, the slice has the whole frame (`closed-open`). A frame that ends in a full block is
-- complete without it (`closed-full`).
use Rattle.std.proofs.Common.{arith}
use Rattle.cobs.proofs.encoding.AfterLemmas.{closed-full, closed-open}
use Rattle.cobs.proofs.enc.unbuffered.UnbufferedEncoder.close.Goals as goal

-- the frame ends in a full block
pub returns-then-self-ne0-clause-frame : goal.returns-then-self-ne0-clause-frame
returns-then-self-ne0-clause-frame c = λ m h. closed-full h (grind arith)

-- the code of the open block was written
pub returns-clause-frame : goal.returns-clause-frame
returns-clause-frame c = λ m h. closed-open h (grind arith)
