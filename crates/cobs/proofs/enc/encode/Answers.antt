-- A new encoder has taken the whole source (`start-after`), and `close` completes the frame.
use Rattle.std.proofs.Common.{◌∙◌, arith}
use Rattle.cobs.proofs.format.SentinelLemmas.{encoded_nonzero}
use Rattle.cobs.proofs.encoding.TakingLemmas.{all-rest, start-after, start-len}
use Rattle.cobs.proofs.enc.encode.Goals as goal

-- the encoder has taken the source, so `close` makes its frame
pub returns-clause-frame : goal.returns-clause-frame
returns-clause-frame c = c.close.ensures.frame c.args.source.now (start-after c.args.dest.now _ c.new-encoder.ensures.start (omega arith) c.append.ensures)

pub returns-clause-no_sentinel : goal.returns-clause-no_sentinel
returns-clause-no_sentinel c = encoded_nonzero (returns-clause-frame c)

-- the frame ends at `encoded_len` of the source
pub returns-clause-len : goal.returns-clause-len
returns-clause-len c = c.close.ensures.end ∙ start-len c.args.dest.now _ c.new-encoder.ensures.start (omega arith) c.append.ensures

-- `close` leaves the bytes after the frame as `append` left them, and `append` leaves them as they were (`all-rest`)
pub returns-clause-rest : goal.returns-clause-rest
returns-clause-rest c = c.close.ensures.rest ∙ (rw c.close.ensures.end (all-rest c.append.ensures))
