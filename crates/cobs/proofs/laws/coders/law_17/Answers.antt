-- A decoder of your own, byte by byte: `FeedLemmas` and `TableLemmas` prove the step for one byte, and `ByByteLemmas` a
-- loop over the bytes.
use Rattle.cobs.proofs.streaming.ByByteLemmas.{piece-ended, piece-more, piece-nothing}
use Rattle.cobs.proofs.streaming.FeedLemmas.{Feeds-step}
use Rattle.cobs.proofs.streaming.TableLemmas.{FeedsByTable-step}
use Rattle.cobs.proofs.laws.coders.law_17.Goals as goal

pub returns : goal.returns
returns c = record {
  step = Feeds-step;
  by_table = FeedsByTable-step;
  nothing = piece-nothing;
  byte = λ bytes _ _ _ _ _ _ result i inside taken fed none. piece-more bytes i inside taken fed none;
  end = λ bytes _ _ _ _ _ _ result end i inside taken fed zero is. piece-ended bytes i inside taken fed end zero is;
}
