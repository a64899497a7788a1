-- The bytes don't contain the sentinel, so XORed with it they are a piece (`coded` of `law_6`, `coded_piece`), as
-- `reads_for` requires.
-- `law_6`: No frame contains its sentinel; a second XOR restores the frame.
use Rattle.cobs_vectors.proofs.Pieces.{coded_piece}
use Rattle.cobs_vectors.proofs.receivers.between_reads_as.Goals as goal

pub reads_for-requires : goal.reads_for-requires
reads_for-requires c = coded_piece c.args.sentinel c.args.between.now c.requires.some (c.law_6.ensures.coded _ _ c.requires.free)
