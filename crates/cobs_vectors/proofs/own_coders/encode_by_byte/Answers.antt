-- Each byte is one of the three steps of `law_16`: a zero closes the open block, the 254th nonzero byte fills it, and
-- any other byte joins it (`by_byte-preserved`). There is room for the byte, because the frame of the whole message
-- fits (`room`). At the end the code of the open block is written, if the last block isn't full.
-- `law_16`: An encoder of your own, byte by byte.
use Rattle.std.proofs.Common.{◌≡◌, ◌≢◌, ◌<◌, ◌≤◌, ◌+◌, ◌-◌, ◌∙◌, ℕ, false, List, [], ◌++◌, length, replicate, take, drop, get_or, slice_set, ap, arith, length-append, length-drop, take_all}
use Rattle.std.proofs.lemmas.List.{length-replicate, length-set, take-append-drop, take_more}
use Rattle.std.proofs.lemmas.List.Elements.{All-replicate}
use Rattle.cobs.specs.Fields.Encoders.{IsPlaceIn}
use Rattle.cobs.specs.Grammar.{HasNoZero, IsEncodedFrame}
use Rattle.cobs.specs.Length.{encoded_len}
use Rattle.cobs.specs.OpenBlock.{CobsEncoderAfter, Reached, next_of, place_at}
use Rattle.cobs_vectors.proofs.own_coders.encode_by_byte.Goals as goal
use Rattle.cobs_vectors.proofs.own_coders.encode_by_byte.Goals.{else-byte-eq0+else-code-lt254, else-byte-eq0+then-code-lt254, then-byte-eq0}

-- if bytes are left, there is room for the next byte; `lower` is a clause of `law_4`, and `goes_on` is a clause of
-- `law_16`
room : ((m : List ℕ) → length m + 1 ≤ encoded_len m)
    → ((slice m a bytes : List ℕ) (reached : Reached) → CobsEncoderAfter slice reached m → HasNoZero a → length a + 1 ≡ reached.block.code → bytes ≢ [] → encoded_len (m ++ bytes) ≡ reached.block.index + encoded_len (a ++ bytes))
    → (m slice : List ℕ) (reached : Reached) (i n : ℕ) → CobsEncoderAfter slice reached (take i m) → IsPlaceIn (length slice) reached → i < length m → length slice ≡ n → encoded_len m ≤ n
    → next_of reached < length slice
room lower goes_on m slice reached i n taken place left len fits =
    -- ones, as many as the open block has bytes after its code, and the bytes that are left (`rest`)
    let a : List ℕ = replicate (reached.block.code - 1) 1 in
    let rest : List ℕ = drop i m in
    let l = length-replicate {A = ℕ} (reached.block.code - 1) 1 in
    let d = length-drop i m in
    let some = place.some in
    let nonempty : rest ≢ [] = (λ none. let z = ap length none in omega (arith, z, d)) in
    -- the whole frame is as long as the blocks before the open block and the frame of a ++ rest (`on`), which is longer
    -- than a ++ rest (`least`)
    let on = goes_on slice (take i m) a rest reached taken (All-replicate (λ b. b ≢ 0) _ 1 (λ e. absurd cc)) (omega (arith, l)) nonempty in
    let whole = ap encoded_len (take-append-drop i m) in
    let least = lower (a ++ rest) in
    let both = length-append a rest in
    omega (arith, on, whole, least, both, l, d)

-- IN THE LOOP the indices are within `dest`, by `room` (`r`): the index of the next byte doesn't overflow
pub overflow_add-next : goal.overflow_add-next
overflow_add-next c = let r = room c.law_4.ensures.lower c.law_16.ensures.goes_on c.args.message.now c.by_byte.dest (place_at c.by_byte.index c.by_byte.code c.by_byte.full) _ _ c.by_byte.invariant.taken (c.law_16.ensures.place _ _ _ c.by_byte.invariant.taken) c.by_byte-test.true c.by_byte.invariant.len c.requires in omega arith

-- the open block begins within `dest` (a zero closes the block)
pub bounds-dest-index : goal.bounds-dest-index
bounds-dest-index c = let r = room c.law_4.ensures.lower c.law_16.ensures.goes_on c.args.message.now c.by_byte.dest (place_at c.by_byte.index c.by_byte.code c.by_byte.full) _ _ c.by_byte.invariant.taken (c.law_16.ensures.place _ _ _ c.by_byte.invariant.taken) c.by_byte-test.true c.by_byte.invariant.len c.requires in omega arith

-- the next byte is within `dest` (the byte joins the block)
pub bounds-dest-next : goal.bounds-dest-next
bounds-dest-next c = room c.law_4.ensures.lower c.law_16.ensures.goes_on c.args.message.now c.by_byte.dest (place_at c.by_byte.index c.by_byte.code c.by_byte.full) _ _ c.by_byte.invariant.taken (c.law_16.ensures.place _ _ _ c.by_byte.invariant.taken) c.by_byte-test.true c.by_byte.invariant.len c.requires

-- the next byte is within `dest` (the byte fills the block)
pub bounds-dest-next-else-code-lt254 : goal.bounds-dest-next-else-code-lt254
bounds-dest-next-else-code-lt254 c = room c.law_4.ensures.lower c.law_16.ensures.goes_on c.args.message.now c.by_byte.dest (place_at c.by_byte.index c.by_byte.code c.by_byte.full) _ _ c.by_byte.invariant.taken (c.law_16.ensures.place _ _ _ c.by_byte.invariant.taken) c.by_byte-test.true c.by_byte.invariant.len c.requires

-- the open block begins within `dest`, whose length the write of the byte didn't change (the byte fills the block)
pub bounds-dest-index-else-code-lt254 : goal.bounds-dest-index-else-code-lt254
bounds-dest-index-else-code-lt254 c =
    let r = room c.law_4.ensures.lower c.law_16.ensures.goes_on c.args.message.now c.by_byte.dest (place_at c.by_byte.index c.by_byte.code c.by_byte.full) _ _ c.by_byte.invariant.taken (c.law_16.ensures.place _ _ _ c.by_byte.invariant.taken) c.by_byte-test.true c.by_byte.invariant.len c.requires in
    omega (arith, length-set c.by_byte.dest (c.by_byte.index + c.by_byte.code) (get_or c.args.message.now c.by_byte.byte-index 0))

-- the index after a full block doesn't overflow
pub overflow_add-index : goal.overflow_add-index
overflow_add-index c =
    let r = room c.law_4.ensures.lower c.law_16.ensures.goes_on c.args.message.now c.by_byte.dest (place_at c.by_byte.index c.by_byte.code c.by_byte.full) _ _ c.by_byte.invariant.taken (c.law_16.ensures.place _ _ _ c.by_byte.invariant.taken) c.by_byte-test.true c.by_byte.invariant.len c.requires in
    let place = c.law_16.ensures.place _ _ _ c.by_byte.invariant.taken in
    omega (arith, place.not_full, r)

-- the encoder has taken one byte more
pub by_byte-preserved : goal.by_byte-preserved
by_byte-preserved c =
    let m : List ℕ = c.args.message.now in
    let i : ℕ = c.by_byte.byte-index in
    let byte : ℕ = get_or m i 0 in
    let dest : List ℕ = c.by_byte.dest in
    let more = take_more m i 0 c.by_byte-test.true in
    let taken = c.by_byte.invariant.taken in
    let len = c.by_byte.invariant.len in
    -- there is room for the byte (`room`), and the open block isn't full (`place`)
    let room = room c.law_4.ensures.lower c.law_16.ensures.goes_on c.args.message.now c.by_byte.dest (place_at c.by_byte.index c.by_byte.code c.by_byte.full) _ _ c.by_byte.invariant.taken (c.law_16.ensures.place _ _ _ c.by_byte.invariant.taken) c.by_byte-test.true c.by_byte.invariant.len c.requires in
    let place = c.law_16.ensures.place _ _ _ taken in
    elim c.if-byte-eq0.branch [
      -- a zero closes the open block
      | then-byte-eq0 w ↦
          rw (w.dest-is, w.index-is, w.code-is, w.full-is, more, w.if-byte-eq0.true) (record { taken = c.law_16.ensures.closes _ _ _ taken room; len = length-set dest _ _ ∙ len })
      -- a nonzero byte joins the open block
      | else-byte-eq0+then-code-lt254 w ↦
          rw (w.dest-is, w.index-is, w.code-is, w.full-is, more) (record { taken = c.law_16.ensures.joins _ _ _ byte taken w.if-byte-eq0.false w.if-code-lt254.true room; len = length-set dest _ _ ∙ len })
      -- the byte is the 254th nonzero byte of the open block, and fills it (`last`)
      | else-byte-eq0+else-code-lt254 w ↦
          let last : c.by_byte.code ≡ 254 = (let below = place.not_full in let from = w.if-code-lt254.false in omega arith) in
          rw (w.dest-is, w.index-is, w.code-is, w.full-is, more) (record { taken = c.law_16.ensures.fills _ _ _ byte taken w.if-byte-eq0.false last room; len = length-set (slice_set dest (c.by_byte.index + c.by_byte.code) byte) _ _ ∙ length-set dest _ _ ∙ len })
    ]

-- after the loop, the first i bytes of the message are the whole message, so the frame of these bytes is the frame of
-- the message
whole : (dest m : List ℕ) (i n : ℕ) → length m ≤ i → IsEncodedFrame (take n dest) (take i m) → IsEncodedFrame (take n dest) m
whole dest m i n end frame = grind (arith, take_all)

-- if the last block isn't full, its code is within the buffer, and so are its bytes
end_in : (n : ℕ) (reached : Reached) → IsPlaceIn n reached → reached.full ≡ false → (reached.block.index < n) × (next_of reached ≤ n)
end_in n reached place short = grind arith

-- the last block is full, so the buffer has the frame already
pub returns-then-full : goal.returns-then-full
returns-then-full c =
    whole c.by_byte.dest c.args.message.now c.by_byte.byte-index c.by_byte.index c.by_byte-test.false (c.law_16.ensures.full_frame _ _ _ c.by_byte.invariant.taken c.if-full.true)

-- the code of the open block is written, and completes the frame
pub returns : goal.returns
returns c =
    whole (slice_set c.by_byte.dest c.by_byte.index c.by_byte.code) c.args.message.now c.by_byte.byte-index (c.by_byte.index + c.by_byte.code) c.by_byte-test.false (c.law_16.ensures.frame _ _ _ c.by_byte.invariant.taken c.if-full.false)

-- at the end, the code of the open block is within `dest`
pub bounds-dest-index-2 : goal.bounds-dest-index-2
bounds-dest-index-2 c = (end_in _ _ (c.law_16.ensures.place _ _ _ c.by_byte.invariant.taken) c.if-full.false).0

-- the length of the frame doesn't overflow
pub overflow_add-result : goal.overflow_add-result
overflow_add-result c =
    let e = end_in _ _ (c.law_16.ensures.place _ _ _ c.by_byte.invariant.taken) c.if-full.false in
    omega (arith, e.1)
