-- Two frames end to end are a frame, by `Reads-append`.
use Rattle.cobs.proofs.format.JoinLemmas.{Reads-append}
use Rattle.cobs.proofs.laws.law_8.Goals as goal

pub returns : goal.returns
returns c = record { joined = Reads-append }
