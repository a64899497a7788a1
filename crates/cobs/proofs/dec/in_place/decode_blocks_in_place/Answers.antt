-- As many bytes are fed as the kept output needs (`kept_len`). From this `kept_fed` derives the result and the buffer.
use Rattle.std.proofs.Common.{◌≤◌, ℕ, List, take, arith, length-take-le}
use Rattle.std.proofs.lemmas.List.{take-take}
use Rattle.cobs.specs.Fields.Decoders.{phase_of}
use Rattle.cobs.specs.Feed.{Idle}
use Rattle.cobs.specs.Internal.FeedsQuietly.{FeedsQuietly}
use Rattle.cobs.proofs.streaming.KeptQuiet.{kept_fed}
use Rattle.cobs.proofs.dec.in_place.decode_blocks_in_place.Goals as goal
use Rattle.cobs.proofs.bytes.XoredLemmas.{xor_each-zero}
use Rattle.cobs.proofs.bytes.ListLemmas.{part-nonzero}

-- no byte of the frame is a zero
pub kept_len-len-requires : goal.kept_len-len-requires
kept_len-len-requires c = grind (arith, xor_each-zero)

-- no byte that is decoded is a zero
pub take_in_place-requires-clause-nonzero : goal.take_in_place-requires-clause-nonzero
take_in_place-requires-clause-nonzero c = part-nonzero 0 _ _ _ c.requires.nonzero (omega (arith, c.kept_len-len.ensures.within, length-take-le {A = ℕ}))

pub returns : goal.returns
returns c =
    -- h is the frame, and `kept_len` gets it XORed with 0, that is, unchanged
    let h : List ℕ = take c.args.end c.args.buffer.now in
    let n : ℕ = c.kept_len-len.result.0 in
    let e = c.kept_len-len.ensures in
    let within : n ≤ c.args.end = omega (arith, e.within, length-take-le c.args.end c.args.buffer.now c.requires.within) in
    let fed : FeedsQuietly c.args.buffer.now Idle (take n h) c.take_in_place.new.buffer (phase_of c.take_in_place.new.self) = grind (arith, take-take) in
    kept_fed _ _ _ c.take_in_place.new.self _ _ _ c.requires.nonzero fed (rw xor_each-zero at e.kept) (rw xor_each-zero at e.whole) c.message_len.ensures.whole c.message_len.ensures.broken
