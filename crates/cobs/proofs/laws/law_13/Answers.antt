-- The open frame of a message. The length of the output follows by `OpenedLemmas`, the difference between the open
-- frame and the encoded frame by `EnumerationLemmas`, and the clause `end` by `end-is` of `AfterLemmas`.
use Rattle.std.proofs.Common.{sym}
use Rattle.cobs.proofs.encoding.AfterLemmas.{end-is}
use Rattle.cobs.proofs.format.EnumerationLemmas.{open_longer, open_shorter}
use Rattle.cobs.proofs.encoding.OpenedLemmas.{length-IsOpenOutput, index-IsOpenOutput}
use Rattle.cobs.proofs.laws.law_13.Goals as goal

pub returns : goal.returns
returns c = record {
  output = λ g m state o. (length-IsOpenOutput o, index-IsOpenOutput o);
  shorter = open_shorter;
  longer = open_longer;
  end = λ slice m reached after. sym (end-is after);
}
