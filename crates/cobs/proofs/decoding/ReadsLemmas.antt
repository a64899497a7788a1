-- A frame is a piece: it isn't empty and has no zero, by `reads_only` of `OutcomeLemmas`.
use Rattle.std.proofs.Common.{ℕ, List}
use Rattle.cobs.specs.Grammar.{Reads}
use Rattle.cobs.specs.Headline.{IsPiece}
use Rattle.cobs.proofs.decoding.OutcomeLemmas.{reads_only}

pub frame_piece : {f m : List ℕ} → Reads f m → IsPiece f
frame_piece {f} {m} r = let is = reads_only f m r in (is.0, is.1)
