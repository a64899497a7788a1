-- As many bytes are fed as the kept output needs (`kept_len`). If `take_blocks` takes all of them, the clauses follow by
-- `kept_fits`; if it stops before, the buffer is full, and they follow by `kept_stop`.
use Rattle.std.proofs.Common.{◌≡◌, ℕ, List, bit_xor, length, length-take, take, arith}
use Rattle.std.proofs.lemmas.List.{take-take, get_or-take, length-map}
use Rattle.std.proofs.lemmas.List.Elements.{All-take}
use Rattle.std.proofs.lemmas.Grind.{common_steps}
use Rattle.cobs.specs.Feed.{Idle}
use Rattle.cobs.specs.Fields.Decoders.{phase_of}
use Rattle.cobs.specs.Internal.FeedsQuietly.{FeedsQuietly}
use Rattle.cobs.specs.Sentinel.{xor_each}
use Rattle.cobs.proofs.format.SentinelLemmas.{front_xored}
use Rattle.cobs.proofs.streaming.KeptQuiet.{kept_fits, kept_stop}
use Rattle.cobs.proofs.dec.forms.decode_blocks.Goals as goal
use Rattle.cobs.proofs.dec.forms.decode_blocks.Goals.{After-take_blocks}

-- h is the XORed source
module _ (c : After-take_blocks) where
  abbrev h : List ℕ
  h = xor_each c.args.sentinel c.args.source.now

  long : length h ≡ length c.args.source.now
  long = grind (arith, length-map, bit_xor)

  -- the bytes that were taken are fed quietly (`FeedsQuietly`)
  fed : FeedsQuietly c.args.dest.now Idle (take c.take_blocks.result h) c.take_blocks.new.dest (phase_of c.take_blocks.new.self)
  fed = grind (arith, front_xored, take-take, length-take)

-- no byte that `take_blocks` gets is a zero
pub take_blocks-requires-clause-nonzero : goal.take_blocks-requires-clause-nonzero
take_blocks-requires-clause-nonzero c = grind (arith, common_steps, front_xored, All-take)

-- the buffer has no room for the byte after the taken bytes, which is one of those whose output is kept
pub returns-then-take_blocks-len : goal.returns-then-take_blocks-len
returns-then-take_blocks-len c =
    let at = (goal.at.returns-then-take_blocks-len c).After-take_blocks in
    let n : ℕ = c.kept_len-len.result.0 in
    let kept = c.kept_len-len.ensures.kept in
    let stop = rw front_xored at (c.take_blocks.ensures.stop (omega (arith, c.kept_len-len.ensures.within, length-take {A = ℕ}))) in
    let here = get_or-take n (h at) c.take_blocks.result 0 (omega arith) in
    kept_stop _ _ _ _ n _ kept c.requires (omega arith) (omega (arith, long at, c.kept_len-len.ensures.within)) (fed at) (rw here at stop)

-- all bytes were taken
pub returns : goal.returns
returns c =
    let at = (goal.at.returns c).After-take_blocks in
    let e = c.kept_len-len.ensures in
    let same : c.take_blocks.result ≡ c.kept_len-len.result.0 = grind (arith, length-take) in
    kept_fits _ _ _ c.take_blocks.new.self _ _ _ c.requires (rw same at (fed at)) e.kept e.whole
    c.message_len.ensures.whole c.message_len.ensures.broken
