-- Lemmas on a slice that has the open frame of a message, except the open block's code (`Opened`): nonzero bytes join
-- the open block (`Opened-join`), and its code closes it (`Opened-close`). Such a slice follows from an open frame
-- (`opened-of`), and an open frame follows from such a slice (`open_frame`). So the three ways in which a byte changes
-- the output of a caller of `EncoderState` follow too: `open-zero`, `open-more` and `open-full`.
use Rattle.std.proofs.Common.{◌≡◌, ◌≢◌, ℕ, ◌+◌, ◌≤◌, ◌==◌, Bool, false, List, [], ◌∷◌, ◌++◌, length, drop, take, refl, sym, ap, ◌∙◌, arith, length-append, length-take-le, length-take, ◌<◌, set, get_or, append-nil, append_assoc, take_at, drop_at, take_all, take-append-drop}
use Rattle.std.specs.List.{concat}
use Rattle.std.proofs.Math.ListN.{set}
use Rattle.std.proofs.Math.Seq.{take-set-lt, take-add}
use Rattle.std.proofs.lemmas.List.{take-take, take-set-le, drop-set-lt, set_split, drop-append-le, drop_all, drop_more, length_push, length-set, set_at, set-append_left, take-append-le}
use Rattle.std.proofs.lemmas.List.Elements.{All-append, All-push, All-nil}
use Rattle.cobs.specs.Grammar.{HasNoZero, IsBlock, joint, message_of, IsFrameOf, IsOpenFrame}
use Rattle.cobs.proofs.encoding.OpenLemmas.{message_of-close, message_of-more, blocks-of, f-is, frame_push}
use Rattle.cobs.proofs.format.FrameLemmas.{concat-push, last_of-push}
use Rattle.cobs.specs.Internal.Reaches.{Opened, ends_in_full}
use Rattle.std.proofs.lemmas.Grind.{common_steps}
use Rattle.cobs.specs.OpenBlock.{OpenBlock, AgreeOutside, IsOpenOutput}

-- if the open block has bytes, the frame doesn't end in a full block
not_full-more : (front : List (List ℕ)) (bytes more : List ℕ) → more ≢ [] → ends_in_full front (bytes ++ more) ≡ false
not_full-more front [] [] some = grind arith
not_full-more front [] (x ∷ more) some = refl
not_full-more front (b ∷ bytes) more some = refl

-- the slice has the open frame of m, except the open block's code; the lemmas say which changes keep this property
module _ {slice m : List ℕ} {index next : ℕ} {full : Bool} (o : Opened slice m index next full) where
  -- this also holds for another slice that has the same bytes before the open block, and the same bytes in the open
  -- block after its code
  Opened-in : (slice' : List ℕ) → take index slice' ≡ take index slice → drop (index + 1) (take next slice') ≡ drop (index + 1) (take next slice) → Opened slice' m index next full
  Opened-in slice' front behind = grind arith

  -- the bytes after the open block don't matter
  pub Opened-same : (slice' : List ℕ) → take next slice' ≡ take next slice → Opened slice' m index next full
  Opened-same slice' same =
      -- the bytes before the open block (`index` bytes) are a front of the `next` bytes that are the same
      let le : index ≤ next = omega arith in
      Opened-in slice' (sym (take-take index next slice' le) ∙ ap (take index) same ∙ take-take index next slice le) (grind arith)

  -- if the open block has no bytes, the byte in its code's place doesn't matter either
  pub Opened-same-empty : (slice' : List ℕ) → next ≡ index + 1 → take index slice' ≡ take index slice → Opened slice' m index next full
  Opened-same-empty slice' empty same = grind (arith, drop_all, length-take)

  -- the byte at the place of the open block's code doesn't matter
  pub Opened-code : (x : ℕ) → Opened (set slice index x) m index next full
  Opened-code x = grind (arith, take-set-le, take-set-lt, drop-set-lt)

  -- nonzero bytes that are already in place join the open block
  pub Opened-join : (more : List ℕ) → more ≢ [] → HasNoZero more → next + length more ≤ index + 255 → next + length more ≤ length slice → take (length more) (drop next slice) ≡ more
      → Opened slice (m ++ more) index (next + length more) false
  Opened-join more some nonzero short fits here =
      -- `all`: up to the new end, the slice has the bytes that it had up to `next`, and then the new bytes
      let sum = length-append o.bytes more in
      let all : take (next + length more) slice ≡ take next slice ++ more = grind (arith, take-add) in
      let long : length (take next slice) ≡ next = grind (arith, length-take-le) in
      record {
        front = o.front;
        bytes = o.bytes ++ more;
        each = o.each;
        nonzero = All-append (λ byte. byte ≢ 0) o.bytes more o.nonzero nonzero;
        few = omega arith;
        message = grind (arith, message_of-more);
        begins = o.begins;
        place = omega arith;
        written = o.written;
        bytes_there = grind (arith, drop-append-le);
        noted = grind arith;
      }

  -- The code of the open block is written, so this block is closed, and a block without bytes is open after it. The
  -- message gets the joint of the closed block, which is a zero unless the code is 255.
  pub Opened-close : (code : ℕ) → next ≤ length slice → index + code ≡ next → Opened (set slice index code) (m ++ joint (code ∷ [])) next (next + 1) (code == 255)
  Opened-close code fits is =
      let code-is : length o.bytes + 1 ≡ code = omega arith in
      let block : List ℕ = code ∷ o.bytes in
      let front' : List (List ℕ) = o.front ++ block ∷ [] in
      let few = o.few in
      let long : length (take next slice) ≡ next = length-take-le next slice fits in
      -- `wrote`: up to `next`, the slice has the blocks before the open block, and then the closed block
      let wrote : take next (set slice index code) ≡ concat o.front ++ block =
      take-set-lt next slice index code (omega arith) ∙ set_split _ index code (omega arith)
      ∙ grind (arith, take-take) in
      record {
        front = front';
        bytes = [];
        each = All-push IsBlock o.front block o.each (sym code-is, omega arith, o.nonzero);
        nonzero = All-nil _;
        few = omega arith;
        message = grind (arith, message_of-close, last_of-push);
        begins = grind (arith, concat-push, length-append);
        place = refl;
        written = grind (arith, concat-push);
        bytes_there = grind (arith, drop_all, length-take);
        noted = grind (arith, last_of-push);
      }

-- FROM AN OPEN FRAME

-- a slice that has the bytes of an open frame, except the open block's code, meets `Opened`
pub opened-of : {f m slice : List ℕ} {index code next : ℕ} (o : IsOpenFrame f m index code) → next ≡ index + code → take index slice ≡ concat o.front
    → drop (index + 1) (take next slice) ≡ o.bytes → Opened slice m index next (ends_in_full o.front o.bytes)
opened-of o is front behind =
    let each = blocks-of o in
    grind arith

-- g is the output of a caller for the message m: an open frame, but with any byte in the place of the open block's code
module _ {g m : List ℕ} {state : OpenBlock} (o : IsOpenOutput g state m) where
  -- the bytes of the blocks before the open block
  abbrev front : List ℕ
  front = concat o.1.front

  -- the index at which the next byte of the message belongs
  abbrev next : ℕ
  next = state.index + state.code

  -- the open block begins after the blocks before it
  begins : length front ≡ state.index
  begins = sym o.1.begins

  -- g consists of the blocks before the open block, a byte in the place of the code, and the open block's bytes
  output-is : g ≡ front ++ o.2.0 ∷ o.1.bytes
  output-is = (rw (f-is o.1) at o.2.1) ∙ set_at front state.code o.1.bytes o.2.0 state.index begins

  -- g ends at the index at which the next byte belongs
  pub length-IsOpenOutput : length g ≡ next
  length-IsOpenOutput = grind (arith, common_steps, output-is)

  -- the place of the open block's code is within g
  pub index-IsOpenOutput : state.index < length g
  index-IsOpenOutput = grind (arith, common_steps, length-IsOpenOutput)

  -- g has the open frame of m, except the open block's code
  pub output-opened : Opened g m state.index next (ends_in_full o.1.front o.1.bytes)
  output-opened =
      -- before the bytes of the open block, g has the other blocks and one byte: `one` counts these bytes, and
      -- `drop_at` drops them
      let one : length (front ++ o.2.0 ∷ []) ≡ state.index + 1 = grind (arith, length_push) in
      let all = take_all next g (omega (arith, length-IsOpenOutput)) in
      opened-of o.1 refl
      (grind (arith, output-is, take_at))
      (ap (drop (state.index + 1)) (grind (arith, output-is, append_assoc)) ∙ drop_at (front ++ o.2.0 ∷ []) o.1.bytes _ one)

-- TO AN OPEN FRAME

-- the slice has the open frame of m, except the open block's code, and `code` is the code that the open block should
-- have
module _ {slice m : List ℕ} {index next : ℕ} {full : Bool} (o : Opened slice m index next full) (code : ℕ) (is : index + code ≡ next) where
  -- the code is one more than the number of the open block's bytes
  pub code-is : length o.bytes + 1 ≡ code
  code-is = omega arith

  -- the blocks, with this code in the open block, are a frame if the open block isn't full
  pub blocks-are : code < 255 → IsFrameOf (concat o.front ++ code ∷ o.bytes) (o.front ++ (code ∷ o.bytes) ∷ [])
  blocks-are short = grind (arith, frame_push)

  -- these blocks stand for m
  pub message-is : m ≡ message_of (o.front ++ (code ∷ o.bytes) ∷ [])
  message-is = grind arith

  -- so the blocks are an open frame of m
  abbrev pub open_frame : code < 255 → IsOpenFrame (concat o.front ++ code ∷ o.bytes) m index code
  open_frame short = record {
    front = o.front;
    bytes = o.bytes;
    frame = blocks-are short;
    message = message-is;
    begins = o.begins;
    not_full = short;
  }

  -- up to `next`, the slice has this open frame, except that the byte in the place of the code may differ
  pub open_slice : next ≤ length slice → AgreeOutside index (concat o.front ++ code ∷ o.bytes) (take next slice)
  open_slice fits =
      let front_long = length-take-le next slice fits in
      -- x is the byte in the place of the code
      let x : ℕ = get_or (take next slice) index 0 in
      -- `split`, `front` and `rest` cut these bytes before and after x, so `o.written` and `o.bytes_there` give both
      -- parts
      let split = take-append-drop index (take next slice) in
      let front = take-take index next slice (omega arith) in
      let rest = drop_more (take next slice) index 0 (omega arith) in
      let begins : take next slice ≡ concat o.front ++ x ∷ o.bytes = cc o.written in
      (x, begins ∙ sym (grind (arith, set_at)))

  -- if the slice ends at `next`, it is the output of a caller for m (`IsOpenOutput`)
  opened-output : code < 255 → length slice ≡ next → IsOpenOutput slice (record { index = index; code = code }) m
  opened-output short long =
      let all : take next slice ≡ slice = grind (arith, take_all) in
      (_, open_frame short, rw all at (open_slice (omega arith)))

-- ONE MORE BYTE

-- g is the output of a caller for the message m
module _ {g m : List ℕ} {state : OpenBlock} (o : IsOpenOutput g state m) where
  -- g with the right code is the open frame
  pub completed : IsOpenFrame (set g state.index state.code) m state.index state.code
  completed =
      -- by `output-is`, g is the open frame with another byte in the place of the code; with the code in this place, it
      -- is the open frame (`f-is`)
      let is = ap (λ l. set l state.index state.code) (output-is o) ∙ set_at (front o) o.2.0 o.1.bytes state.code state.index (begins o) ∙ sym (f-is o.1) in
      rw is o.1

  -- for a zero, the caller writes the code of the open block, and appends a placeholder x: the output for m and the
  -- zero
  pub open-zero : (x : ℕ) → IsOpenOutput (set g state.index state.code ++ x ∷ []) (record { index = next o; code = 1 }) (m ++ 0 ∷ [])
  open-zero x =
      let long = length-IsOpenOutput o in
      let code' = length-set g state.index state.code in
      -- the code closes the open block (`closed`), whose joint is the zero (`zero`), as its code isn't 255
      let closed = Opened-close (output-opened o) state.code (omega arith) refl in
      let zero : joint (state.code ∷ []) ≡ 0 ∷ [] = grind arith in
      -- `out`: `closed` also holds with x in the place of the next code, since the new open block has no bytes
      let out = Opened-same-empty closed _ refl (take-append-le _ _ _ (omega arith)) in
      rw zero at (opened-output out 1 refl (omega arith) (length_push _ x ∙ omega arith))

  -- the caller is given a nonzero byte
  module _ (byte : ℕ) (nonzero : byte ≢ 0) where
    -- if the byte is appended to g, it joins the open block
    joins : Opened (g ++ byte ∷ []) (m ++ byte ∷ []) state.index (next o + 1) false
    joins =
        let long = length-IsOpenOutput o in
        let longer = length_push g byte in
        -- `same`: the appended byte comes after the open block, so it doesn't matter yet; `Opened-join` then takes it
        let same = Opened-same (output-opened o) (g ++ byte ∷ []) (take-append-le _ _ _ (omega arith)) in
        grind (arith, Opened-join, drop_at)

    -- unless it is the 254th byte of the open block, appending the byte is the whole change
    pub open-more : state.code ≢ 254 → IsOpenOutput (g ++ byte ∷ []) (record { index = state.index; code = state.code + 1 }) (m ++ byte ∷ [])
    open-more room = opened-output joins _ (omega arith) (omega arith) (length_push g byte ∙ omega (arith, length-IsOpenOutput o))

    -- if it is the 254th byte, the caller writes the code 255 and appends the byte and a placeholder x
    pub open-full : (x : ℕ) → state.code ≡ 254 → IsOpenOutput (set g state.index 255 ++ byte ∷ x ∷ []) (record { index = state.index + 255; code = 1 }) (m ++ byte ∷ [])
    open-full x last =
        let long = length-IsOpenOutput o in
        let longer = length_push g byte in
        let sum : next o + 1 ≡ state.index + 255 = omega arith in
        -- the code 255 closes the open block, which has the byte already (`joins`)
        let closed = Opened-close joins 255 (omega arith) (sym sum) in
        -- `out`: `closed` also holds for the list with x, whose bytes before x are the same; `coded` says that the code
        -- can be set before or after the byte is appended
        let out = Opened-same-empty closed _ refl (
        let coded = set-append_left g _ state.index 255 (index-IsOpenOutput o) in
        let long' = length-set g state.index 255 in
        let long_push = length_push (set g state.index 255) byte in
        ap (take _) (sym (append_assoc _ (byte ∷ []) (x ∷ []))) ∙ take-append-le _ _ _ (omega arith) ∙ ap (take _) (sym coded)
        ) in
        -- the joint of a full block is empty, so nothing is added to the message (`append-nil`)
        rw (sum, append-nil) at (opened-output out 1 refl (omega arith) (grind (arith, length-append, length-set)))
