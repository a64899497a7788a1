-- The invariant of the type, `has_taken`: the decoder of a new reader is idle (`c.requires`), so it has been fed no
-- byte of a piece that hasn't ended.
use Rattle.std.proofs.Common.{refl, []}
use Rattle.cobs.proofs.framed.FrameReader.new.Goals as goal

pub invariant_of-result-clause-has_taken : goal.invariant_of-result-clause-has_taken
invariant_of-result-clause-has_taken g c = ∣ ([], record { after = c.requires; flag = refl }) ∣₁
