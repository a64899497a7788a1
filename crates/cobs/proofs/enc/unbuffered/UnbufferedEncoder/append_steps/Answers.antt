-- Each step takes the first of the bytes that are left; `one-more` joins the steps.
use Rattle.std.proofs.Common.{◌≡◌, ◌<◌, ◌+◌, ℕ, List, ◌∷◌, ◌++◌, [], drop, take, get_or, length, length-drop, sym, ap, ◌∙◌, arith}
use Rattle.std.proofs.lemmas.List.{append_assoc, drop_more, take_more}
use Rattle.cobs.specs.Fields.Progress.{reached_by}
use Rattle.cobs.specs.Internal.Taking.{TakesFront}
use Rattle.cobs.specs.OpenBlock.{Reached, end_after}
use Rattle.cobs.proofs.encoding.TakingLemmas.{front-none, next-least}
use Rattle.cobs.proofs.enc.unbuffered.UnbufferedEncoder.append_steps.Goals as goal

-- after i bytes of the source, a step takes one byte more
one-more : {source old slice slice' : List ℕ} {r r' r'' : Reached} (i : ℕ) → i < length source → TakesFront old r source i slice r'
    → TakesFront slice r' (get_or source i 0 ∷ drop (i + 1) source) 1 slice' r'' → TakesFront old r source (i + 1) slice' r''
one-more {source} {old} {slice} {slice'} {r} {r'} {r''} i more t u =
    let left : drop i source ≡ get_or source i 0 ∷ drop (i + 1) source = drop_more source i 0 more in
    let v : TakesFront slice r' (drop i source) 1 slice' r'' = rw left u in
    let taken : take (i + 1) source ≡ take i source ++ get_or source i 0 ∷ [] = take_more source i 0 more in
    record {
      place = u.place;
      after = λ m h. rw (taken, sym (append_assoc m (take i source) (get_or source i 0 ∷ []))) (u.after (m ++ take i source) (t.after m h));
      end = u.end ∙ ap (end_after r') (sym left) ∙ t.end;
      rest = rw t.end at v.rest ∙ t.rest;
    }

pub by_byte-init : goal.by_byte-init
by_byte-init c = record { taken = front-none c.requires.place }

-- there is room for the next byte, and for those behind it
pub append_byte-requires : goal.append_byte-requires
append_byte-requires c =
    let left : List ℕ = drop c.by_byte.byte-index c.args.bytes.now in
    let t = c.by_byte.invariant.taken in
    let long = length-drop c.by_byte.byte-index c.args.bytes.now in
    let least = next-least (reached_by c.by_byte.state) left t.place.some (omega arith) in
    let end = t.end in
    let short = t.place.not_full in
    record { open_block = omega arith; room = omega arith }

pub by_byte-preserved : goal.by_byte-preserved
by_byte-preserved c =
    let t = c.by_byte.invariant.taken in
    let end = t.end in
    let left = drop_more c.args.bytes.now c.by_byte.byte-index 0 (omega arith) in
    let fits = rw left at end in
    record { taken = one-more c.by_byte.byte-index (omega arith) t (c.append_byte.ensures (drop (c.by_byte.byte-index + 1) c.args.bytes.now) (omega arith)) }
