-- Lemmas on a text that is composed before it is written: `bare-view` is about the text of a piece without colour,
-- number and time, and `on_ok` is about the result of any call.
use Rattle.std.proofs.Common.{◌≡◌, ℕ, [], Result, Ok, Err, true, false, refl}
use Rattle.std.specs.Prelude.{OnOk}
use Rattle.cobs_live.specs.Seen.{Seen}
use Rattle.cobs_live.specs.Shown.{in_front, in_view, passes, styled}
use Rattle.cobs_live.specs.declared.clock.Stamp.TheVariants.{Untimed}
use Rattle.cobs_live.specs.declared.clock.Times.{Times}
use Rattle.cobs_live.specs.declared.shown.Style.{Style}
use Rattle.cobs_live.specs.declared.shown.Style.TheVariants.{Hex, Text, Raw, Hexdump, Json, Pcap}
use Rattle.cobs_live.specs.declared.shown.View.{View}

-- if P implies Q, and P holds if the result is an `Ok`, then Q holds if the result is an `Ok`
pub on_ok : {A E P Q : Type 0} (r : Result A E) → (P → Q) → OnOk r P → OnOk r Q
on_ok (Ok v) f p = f p
on_ok (Err e) f p = tt

-- in every style, no text precedes a piece if it has no time
untimed-front : (style : Style) (times : Times) → in_front style Untimed times ≡ []
untimed-front Hex times = refl
untimed-front Text times = refl
untimed-front Raw times = refl
untimed-front Hexdump times = refl
untimed-front Json times = refl
untimed-front Pcap times = refl

-- if a piece passes the filter, and the view has no colour, number or time, the text of the piece in the view is its
-- text in the style
pub bare-view : (view : View) (number : ℕ) (times : Times) (seen : Seen) → passes view.filter seen.kind ≡ true → view.color ≡ false → view.number ≡ false → view.stamp ≡ Untimed → in_view view number times seen ≡ styled view.style false number Untimed times seen
bare-view view number times seen shown plain alone untimed = rw (shown, plain, alone, untimed, untimed-front view.style times) refl
