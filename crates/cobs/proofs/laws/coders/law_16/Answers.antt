-- The fields are lemmas on `CobsEncoderAfter`: `ByteLemmas` has the steps, and `AfterLemmas` has the start and the end.
use Rattle.cobs.proofs.encoding.AfterLemmas.{after-nothing, after-place, closed-full, closed-open}
use Rattle.cobs.proofs.encoding.ByteLemmas.{after-byte, after-filled, after-more, after-zero}
use Rattle.cobs.proofs.laws.coders.law_16.Goals as goal

pub returns : goal.returns
returns c = record {
  nothing = after-nothing;
  place = λ _ _ _ h. after-place h;
  goes_on = λ _ _ a bytes _ h. after-more a bytes h;
  joins = λ _ _ _ byte h other short room. after-byte h room byte other short;
  fills = λ _ _ _ byte h other last room. after-filled h room byte other last;
  closes = λ _ _ _ h room. after-zero h room;
  frame = λ _ _ _ h open'. closed-open h open';
  full_frame = λ _ _ _ h full. closed-full h full;
}
