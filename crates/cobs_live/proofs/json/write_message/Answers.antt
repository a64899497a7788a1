-- The length, the digits, the last quote of the digits, and the text are written one after another (`Appends-trans`).
use Rattle.std.proofs.KnownBytes.{Appends-trans}
use Rattle.cobs_live.proofs.json.write_message.Goals as goal

pub returns : goal.returns
returns g c = record {
  written = Appends-trans _ _ _ _ _ (Appends-trans _ _ _ _ _ (Appends-trans _ _ _ _ _ c.in_ok-write.ensures.bytes c.in_ok-write_digits.ensures.written) c.in_ok-write_all.ensures.bytes) c.in_ok-write_utf8.ensures.written;
}
