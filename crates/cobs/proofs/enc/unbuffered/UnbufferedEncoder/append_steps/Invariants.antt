-- The first `byte-index` bytes of the source are taken.
use Rattle.cobs.specs.Fields.Progress.{reached_by}
use Rattle.cobs.specs.Internal.Taking.{TakesFront}
use Rattle.cobs.proofs.enc.unbuffered.UnbufferedEncoder.append_steps.Given as goal

abbrev pub invariant-by_byte : goal.invariant-by_byte
invariant-by_byte l = record {
  taken : TakesFront l.fn.dest (reached_by l.fn.self) l.bytes l.byte-index l.dest (reached_by l.state);
}
