-- `close` completes the frame of the message in the slice, and returns the frame's length (`end-is`). A frame has no
-- zero (`encoded_nonzero`).
use Rattle.std.proofs.Common.{◌∙◌, sym}
use Rattle.cobs.proofs.encoding.AfterLemmas.{end-is}
use Rattle.cobs.proofs.format.SentinelLemmas.{encoded_nonzero}
use Rattle.cobs.proofs.enc.encoder.CobsEncoder.finalize.Goals as goal

pub returns-clause-len : goal.returns-clause-len
returns-clause-len c = λ m h. c.close.ensures.end ∙ sym (end-is h)

pub returns-clause-frame : goal.returns-clause-frame
returns-clause-frame c = λ m h. c.close.ensures.frame m h

pub returns-clause-no_sentinel : goal.returns-clause-no_sentinel
returns-clause-no_sentinel c = λ m h. encoded_nonzero (returns-clause-frame c m h)
