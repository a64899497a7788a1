-- The steps in place are fed one after another (`FeedsQuietly-more`). Each step reads the bytes as they were at the
-- start, since no earlier step wrote at or after the index that is read (`rest_read`).
use Rattle.std.proofs.Common.{◌-◌, ℕ, List, take, drop, sym, subst, arith}
use Rattle.cobs.specs.Fields.Decoders.{phase_of}
use Rattle.cobs.specs.Grammar.{HasNoZero}
use Rattle.cobs.specs.Internal.FeedsQuietly.{FeedsQuietly}
use Rattle.cobs.proofs.streaming.RunLemmas.{rest_read}
use Rattle.cobs.proofs.streaming.SpanLemmas.{FeedsQuietly-more}
use Rattle.cobs.proofs.dec.unbuffered.UnbufferedDecoder.take_in_place.Goals as goal
use Rattle.cobs.proofs.bytes.ListLemmas.{part-nonzero}

-- none of the bytes from index `at` to index `end - 1` is a zero: these bytes are as they were before the call
pub take_part_in_place-at-requires-clause-nonzero : goal.take_part_in_place-at-requires-clause-nonzero
take_part_in_place-at-requires-clause-nonzero c =
    let a = c.args in
    let i = c.by_step.invariant in
    -- the bytes from `at` on are those from before the call (`rest_read`), and these have no zero
    subst (λ (l : List ℕ). HasNoZero (take (a.end - c.by_step.at) l)) (sym (rest_read a.buffer.now c.by_step.buffer a.self.now c.by_step.self a.read c.by_step.at a.end i.started i.within c.requires.nonzero i.fed i.behind))
    (part-nonzero (c.by_step.at - a.read) (a.end - c.by_step.at) (a.end - a.read) (drop a.read a.buffer.now) c.requires.nonzero (omega arith))

-- the bytes of this step are fed after those of the steps so far
pub by_step-preserved : goal.by_step-preserved
by_step-preserved c =
    let a = c.args in
    let i = c.by_step.invariant in
    let e = c.take_part_in_place-at.ensures in
    let n : ℕ = c.take_part_in_place-at.result in
    let bytes : List ℕ = drop a.read a.buffer.now in
    let new = c.take_part_in_place-at.new in
    -- the step gets the bytes as they were before the call
    let more : FeedsQuietly c.by_step.buffer (phase_of c.by_step.self) (take n (drop (c.by_step.at - a.read) bytes)) new.buffer (phase_of new.self)
    = subst (λ (l : List ℕ). FeedsQuietly c.by_step.buffer (phase_of c.by_step.self) (take n l) new.buffer (phase_of new.self))
    (rest_read a.buffer.now c.by_step.buffer a.self.now c.by_step.self a.read c.by_step.at a.end i.started i.within c.requires.nonzero i.fed i.behind) e.fed in
    record {
      -- the bytes up to index `at` are fed (`i.fed`), and then the n bytes of this step (`more`)
      fed = subst (λ (k : ℕ). FeedsQuietly a.buffer.now (phase_of a.self.now) (take k bytes) new.buffer (phase_of new.self)) (omega arith)
          (FeedsQuietly-more bytes a.buffer.now c.by_step.buffer new.buffer (phase_of a.self.now) (phase_of c.by_step.self) (phase_of new.self) (c.by_step.at - a.read) n i.fed more);
      going = e.going;
      started = omega arith;
      within = e.within;
      behind = e.behind;
      joint = e.joint;
    }
