-- In each branch, the written text is that of the counts for the value of `checked` that was found (`text-flag`).
-- `plain` and `ok` are the premises of the clause `writes`.
use Rattle.std.proofs.Common.{true, false}
use Rattle.cobs_live.proofs.TallyLemmas.{text-flag}
use Rattle.cobs_live.proofs.tally.TallyDisplay.fmt.Goals as goal

-- the checksums are checked, so the text has the count of wrong checksums
pub returns-then-self-clause-writes : goal.returns-then-self-clause-writes
returns-then-self-clause-writes g c = λ plain ok. rw (text-flag c.args.self.now true c.if-self.true) (c.write.ensures.writes plain ok)

-- no checksums are checked, so the text leaves this count out
pub returns-else-self-clause-writes : goal.returns-else-self-clause-writes
returns-else-self-clause-writes g c = λ plain ok. rw (text-flag c.args.self.now false c.if-self.false) (c.write-else-self.ensures.writes plain ok)
