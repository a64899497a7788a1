-- How to find the kind of a frame, block by block: each clause is a lemma of `GrammarLemmas`.
use Rattle.cobs.proofs.format.GrammarLemmas.{IsCanonical-block, front-canonical, front-frame, short-frame}
use Rattle.cobs.proofs.laws.coders.law_19.Goals as goal

pub returns : goal.returns
returns c = record {
  one = IsCanonical-block;
  frame = front-frame;
  canonical = front-canonical;
  short = short-frame;
}
