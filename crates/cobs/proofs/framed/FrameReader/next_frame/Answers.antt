-- `Going` of `ReadingLemmas` holds before the first read (`Going-start`), and after each read in whose bytes no piece
-- ends (`Going-push`). For each way in which the call can end, `ReadingLemmas` has a lemma whose name begins with
-- `ReadsNext`: a piece ends in the kept bytes, a read fails, the source ends, a piece ends in the bytes of a read, or
-- too many reads were made. No step changes which buffer the decoder was lent (`same_loan`).
use Rattle.std.proofs.Common.{◌≡◌, ◌-◌, [], subst, drop, length-take, take, Some, arith}
use Rattle.cobs.proofs.streaming.ReadingLemmas.{Going-start, Going-push, ReadsNext-kept, ReadsNext-failed, ReadsNext-end, ReadsNext-piece, ReadsNext-too_many, front_rest, empty_range, left_of_range}
use Rattle.cobs.proofs.framed.FrameReader.next_frame.Goals as goal

-- a piece ends in the kept bytes, so nothing is read
pub returns-in-Some-clause-next : goal.returns-in-Some-clause-next
returns-in-Some-clause-next g c =
    let r = c.args.self.now in
    let e = c.in-Some.ensures in
    -- the bytes after the piece are kept
    let kept = left_of_range r.chunk r.start r.end c.in-Some.count
    (omega (arith, e.within, length-take (r.end - r.start) (drop r.start r.chunk))) in
    ReadsNext-kept _ _ _ _ _ (λ p b. rw (e.same_chunk, e.same_start, e.same_end) (rw kept at (e.first p b))) e.idle

-- before the first read
pub by_read-init : goal.by_read-init
by_read-init g c = grind (arith, Going-start)

-- the read failed
pub returns-in-None-clause-next : goal.returns-in-None-clause-next
returns-in-None-clause-next g c = ReadsNext-failed _ (grind arith) (omega arith) c.by_read.invariant.going c.in-None.ensures.step

-- the read returned no bytes, so the source has ended
pub returns-in-Some-eq0-clause-next : goal.returns-in-Some-eq0-clause-next
returns-in-Some-eq0-clause-next g c =
    -- the step of the source for a read that returned no bytes
    let step : g.S.FrameSource.step c.by_read.source (Some []) c.read_some.new.self
    = subst (λ k. g.S.FrameSource.step c.by_read.source (Some (take k c.read_some.new.chunk)) c.read_some.new.self) c.in-Some-eq0.field-0-test c.in-Some-eq0.ensures.step in
    ReadsNext-end _ (grind arith) (omega arith) c.by_read.invariant.going step

-- no piece ends in the bytes of the read, and all of them were fed to the decoder
pub by_read-preserved : goal.by_read-preserved
by_read-preserved g c =
    let r = c.feed_through_end-in-Some-read_some.new.self in
    let e = c.in_default-feed_through_end.ensures in
    let emptied : r.start ≡ r.end = grind arith in
    record {
      emptied = emptied;
      -- for each front q that the decoder may have been fed before this read, no piece ended in the bytes of this read
      -- (`t`), so `Going` holds for one read more
      going = Going-push _ _ (grind arith) c.by_read.invariant.going
          c.in-Some-read_some.ensures.step e.len (λ q b.
          let t = e.none q b in
          (record { none_ended = t.0.none_ended; after = t.0.after; nothing_kept = empty_range r.chunk r.start r.end emptied }, t.1));
      same_loan = grind arith;
    }

-- a piece ends in the bytes of the read
pub returns-in-Some-feed_through_end-clause-next : goal.returns-in-Some-feed_through_end-clause-next
returns-in-Some-feed_through_end-clause-next g c =
    let n = c.in-Some-read_some.n in
    let chunk = c.read_some.new.chunk in
    let e = c.in-Some-feed_through_end.ensures in
    -- `e`: the decoder was fed the bytes up to the piece's end; `front_rest`: the other bytes of the read are kept
    ReadsNext-piece _ _ (omega arith) c.by_read.invariant.going c.in-Some-read_some.ensures.step e.len
    (grind (arith, front_rest)) e.idle

-- 65,536 reads were made, and each of them returned bytes
pub returns-clause-next : goal.returns-clause-next
returns-clause-next g c = ReadsNext-too_many (omega arith) c.by_read.invariant.going
