-- `send_message` sends the message, or the line can't be read as hexadecimal digits and nothing is sent. Without this
-- file, the prover's own search would find the proofs too, but slowly.
use Rattle.std.proofs.Common.{arith}
use Rattle.std.proofs.lemmas.Grind.{common_steps}
use Rattle.cobs_live.proofs.send.send_text.Goals as goal

-- the line itself is the message
pub returns-then-not-settings-clause-sent : goal.returns-then-not-settings-clause-sent
returns-then-not-settings-clause-sent g c = grind (arith, common_steps)

pub returns-then-not-settings-clause-returned : goal.returns-then-not-settings-clause-returned
returns-then-not-settings-clause-returned g c = grind (arith, common_steps)

-- the line has the digits of the message
pub returns-in-Ok-clause-sent : goal.returns-in-Ok-clause-sent
returns-in-Ok-clause-sent g c = grind (arith, common_steps)

pub returns-in-Ok-clause-returned : goal.returns-in-Ok-clause-returned
returns-in-Ok-clause-returned g c = grind (arith, common_steps)

-- memory ran out
pub returns-then-eq-clause-fault : goal.returns-then-eq-clause-fault
returns-then-eq-clause-fault g c = grind (arith, common_steps)

pub returns-then-eq-clause-unwritten : goal.returns-then-eq-clause-unwritten
returns-then-eq-clause-unwritten g c = grind (arith, common_steps)

-- the line can't be read as digits, so nothing is sent
pub returns-clause-sent : goal.returns-clause-sent
returns-clause-sent g c = grind (arith, common_steps)

pub returns-clause-returned : goal.returns-clause-returned
returns-clause-returned g c = grind (arith, common_steps)
