-- The frame between its sentinels has no zero (`delimited_nonzero`).
use Rattle.std.proofs.Common.{arith}
use Rattle.std.proofs.lemmas.Grind.{common_steps}
use Rattle.cobs.proofs.format.SentinelLemmas.{behind_sentinels, delimited_nonzero}
use Rattle.cobs.proofs.enc.sentinel.try_encode_including_sentinels.Goals as goal

pub returns-clause-frame : goal.returns-clause-frame
returns-clause-frame c = grind (arith, common_steps)

pub returns-clause-no_sentinel : goal.returns-clause-no_sentinel
returns-clause-no_sentinel c = delimited_nonzero (returns-clause-frame c)

-- the bytes after both sentinels are as they were; without this answer, the prover's own search would take long
pub returns-clause-rest : goal.returns-clause-rest
returns-clause-rest c = grind (arith, behind_sentinels)
