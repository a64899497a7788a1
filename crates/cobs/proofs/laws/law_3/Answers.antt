-- All frames of a message, by `all_frames`; if there are two, the second is a byte longer, by `length-second`.
use Rattle.cobs.proofs.format.EnumerationLemmas.{all_frames, length-second}
use Rattle.cobs.proofs.laws.law_3.Goals as goal

pub returns : goal.returns
returns c = record { frames = all_frames; longer = length-second }
