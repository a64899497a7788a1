-- Sentinels outside a piece are fed quietly (`FeedsQuietly`), and then the bytes that `take_run` takes (`fed`). So no
-- piece ends in these bytes (`piece-all`). If a sentinel follows, it ends the piece that is open there (`open-after`).
-- Otherwise the next byte has no room, and the bytes up to the next sentinel don't end the piece (`piece-over`). `xored`
-- are the bytes, XORed with the sentinel: the bytes of a stream whose sentinel is 0.
use Rattle.std.proofs.Common.{◌≡◌, ◌≢◌, ◌∙◌, ◌+◌, ◌-◌, ◌<◌, ◌≤◌, All, ℕ, List, None, length, take, drop, get_or, refl, sym, ap, arith, length-take, length-drop, take_all}
use Rattle.std.proofs.lemmas.List.{get_or-drop, length-map, take_rest}
use Rattle.std.specs.Int.Bits.{bit_xor}
use Rattle.cobs.specs.Feed.{Feeds, Idle, Overlong, Phase}
use Rattle.cobs.specs.FeedPiece.{TakesPiece, end_reported}
use Rattle.cobs.specs.Fields.Decoders.{phase_of}
use Rattle.cobs.specs.Sentinel.{xor_each}
use Rattle.cobs.specs.Step.{end_result, next_phase}
use Rattle.cobs.specs.declared.dec.frame_decoder.PieceEnd.TheVariants.{TooLong}
use Rattle.cobs.proofs.decoding.SourceSteps.{xor_no_zero}
use Rattle.cobs.proofs.format.SentinelLemmas.{coded_some, coded_zero, rest_xored, front_xored}
use Rattle.cobs.proofs.streaming.ByByteLemmas.{piece-more, piece-ended}
use Rattle.cobs.proofs.streaming.FeedLemmas.{Feeds-as, Feeds-zero}
use Rattle.cobs.proofs.streaming.OpenLemmas.{end_begun, full-buffer, open-after}
use Rattle.cobs.proofs.streaming.RunLemmas.{piece-all, piece-over}
use Rattle.cobs.proofs.streaming.SpanLemmas.{FeedsQuietly-more}
use Rattle.cobs.proofs.dec.unbuffered.UnbufferedDecoder.feed_piece_with_sentinel.Goals.{After-take_run}
use Rattle.cobs.proofs.dec.unbuffered.UnbufferedDecoder.feed_piece_with_sentinel.Goals as goal

module _ (c : After-take_run) where
  abbrev xored : List ℕ
  xored = xor_each c.args.sentinel c.args.bytes.now

  abbrev start : ℕ
  start = c.zeros_outside-start.result

  abbrev run : ℕ
  run = c.take_run.result

  -- the buffer and the phase after these bytes
  abbrev buffer : List ℕ
  buffer = c.take_run.new.dest

  abbrev phase : Phase
  phase = phase_of c.take_run.new.self

  long : length xored ≡ length c.args.bytes.now
  long = length-map c.args.bytes.now (λ b. bit_xor b c.args.sentinel)

  -- `take_run` got the bytes from index `start` on
  rest : xor_each c.args.sentinel (take (length c.args.bytes.now - start) (drop start c.args.bytes.now)) ≡ drop start xored
  rest = rest_xored c.args.bytes.now c.args.sentinel start

  -- no piece ends in the bytes that were taken
  none_ended : TakesPiece c.args.dest.now (phase_of c.args.self.now) (take (start + run) xored) None buffer phase
  none_ended = piece-all _ _ _ _ _ (FeedsQuietly-more xored _ _ _ _ _ _ start run (c.zeros_outside-start.ensures.quiet c.args.dest.now) (rw rest at c.take_run.ensures.fed))

  -- if a byte follows, and no piece was open before the run, the run isn't empty: after the sentinels at the front comes
  -- another byte. So a piece is open if a sentinel follows.
  begun : start + run < length xored → get_or xored (start + run) 0 ≡ 0 → phase ≢ Idle
  begun within zero = open-after (take run (drop start xored)) _ _ _ _ (rw rest at c.take_run.ensures.nonzero) (rw rest at c.take_run.ensures.fed)
      (λ idle. grind (arith, c.zeros_outside-start.ensures.next, length-take, length-drop, long))

  -- the next byte isn't a sentinel, so the buffer has no room for its output, and the piece is too long
  module _ (within : start + run < length c.args.bytes.now) (nz : get_or xored (start + run) 0 ≢ 0) where
    over : next_phase (length buffer) phase (get_or xored (start + run) 0) ≡ Overlong
    over = rw (rest, get_or-drop) at c.take_run.ensures.stop (omega (arith, length-take {A = ℕ}, length-drop {A = ℕ})) nz

    one : TakesPiece c.args.dest.now (phase_of c.args.self.now) (take (start + run + 1) xored) None buffer Overlong
    one = piece-more xored (start + run) (omega (arith, long)) none_ended (Feeds-as refl (sym over) (sym (full-buffer buffer phase _ nz over))) (λ z. absurd (nz z))

  -- the first sentinel after this byte is the r-th byte after it, or there is none; `e` has the clauses of the search
  module _ (within : start + run < length c.args.bytes.now) (nz : get_or xored (start + run) 0 ≢ 0) (r : ℕ)
      (e : (r ≤ length (take (length c.args.bytes.now - (start + run + 1)) (drop (start + run + 1) c.args.bytes.now)))
      × All (λ other. other ≢ c.args.sentinel) (take r (take (length c.args.bytes.now - (start + run + 1)) (drop (start + run + 1) c.args.bytes.now)))
      × (r < length (take (length c.args.bytes.now - (start + run + 1)) (drop (start + run + 1) c.args.bytes.now)) → get_or (take (length c.args.bytes.now - (start + run + 1)) (drop (start + run + 1) c.args.bytes.now)) r 0 ≡ c.args.sentinel)) where
    -- none of the bytes up to there ends the piece
    passed : TakesPiece c.args.dest.now (phase_of c.args.self.now) (take (start + run + 1 + r) xored) None buffer Overlong
    passed = piece-over xored (start + run + 1) r (omega (arith, e.0, long, length-take {A = ℕ}, length-drop {A = ℕ})) (rw (front_xored, rest_xored) at (xor_no_zero _ _ _ e.0 e.1 e.2)) (one within nz)

    -- the sentinel there
    zero_there : start + run + 1 + r < length c.args.bytes.now → get_or xored (start + run + 1 + r) 0 ≡ 0
    zero_there more = coded_zero _ _ _ more (rw (take_rest, get_or-drop) at (e.2 (omega (arith, more, length-take {A = ℕ}, length-drop {A = ℕ}))))

-- all bytes were taken, and no piece ended
pub returns-then-taken-bytes : goal.returns-then-taken-bytes
returns-then-taken-bytes c =
    let at = (goal.at.returns-then-taken-bytes c).After-take_run in
    record { takes = rw (take_all (start at + run at) (xored at) (omega (arith, long at))) at (none_ended at) }

-- this return isn't reached: a piece is open before the sentinel, so its end is reported
pub returns-in_err-end : goal.returns-in_err-end
returns-in_err-end c =
    let at = (goal.at.returns-in_err-end c).After-take_run in
    let within : start at + run at < length c.args.bytes.now = omega (arith, c.take_run.ensures.within, length-take {A = ℕ}, length-drop {A = ℕ}) in
    absurd (end_begun _ _ (begun at (omega (arith, long at)) (coded_zero _ _ _ within c.if-bytes-taken.true)) (ap end_reported (sym c.end.ensures.returned) ∙ sym c.in_err-end.ensures.end))

-- a sentinel ends the piece
pub returns-then-bytes-taken : goal.returns-then-bytes-taken
returns-then-bytes-taken c =
    let at = (goal.at.returns-then-bytes-taken c).After-take_run in
    let within : start at + run at < length c.args.bytes.now = omega (arith, c.take_run.ensures.within, length-take {A = ℕ}, length-drop {A = ℕ}) in
    let zero = coded_zero c.args.bytes.now c.args.sentinel _ within c.if-bytes-taken.true in
    let last : Feeds (buffer at) (phase at) (get_or (xored at) (start at + run at) 0) (end_result (length (buffer at)) (phase at)) (buffer at) Idle = rw zero (Feeds-zero (buffer at) (phase at)) in
    -- the end that the call returns is the one that the result for the zero reports
    record { takes = rw c.end.ensures.idle (piece-ended _ _ (omega (arith, long at)) (none_ended at) last _ zero (ap end_reported (sym c.end.ensures.returned) ∙ sym c.in_ok-end.ensures.end)) }

-- the piece is too long, and no sentinel follows
pub returns-then-end-bytes : goal.returns-then-end-bytes
returns-then-end-bytes c =
    let at = (goal.at.returns-then-end-bytes c).After-take_run in
    let within : start at + run at < length c.args.bytes.now = omega (arith, c.take_run.ensures.within, length-take {A = ℕ}, length-drop {A = ℕ}) in
    let nz = coded_some c.args.bytes.now c.args.sentinel _ within c.if-bytes-taken.false in
    let e = c.position_or_len.ensures in
    record { takes = rw (take_all (start at + run at + 1 + c.position_or_len.result) (xored at) (omega (arith, long at))) at (passed at within nz _ (e.within, e.before, e.stop)) }

-- the piece is too long, and a sentinel ends it
pub returns : goal.returns
returns c =
    let at = (goal.at.returns c).After-take_run in
    let within : start at + run at < length c.args.bytes.now = omega (arith, c.take_run.ensures.within, length-take {A = ℕ}, length-drop {A = ℕ}) in
    let nz = coded_some c.args.bytes.now c.args.sentinel _ within c.if-bytes-taken.false in
    let e = c.position_or_len.ensures in
    let end : ℕ = start at + run at + 1 + c.position_or_len.result in
    let inside : end < length c.args.bytes.now = omega (arith, e.within, length-take {A = ℕ}, length-drop {A = ℕ}) in
    let zero = zero_there at within nz _ (e.within, e.before, e.stop) inside in
    let last : Feeds (buffer at) Overlong (get_or (xored at) end 0) (end_result (length (buffer at)) Overlong) (buffer at) Idle = rw zero (Feeds-zero (buffer at) Overlong) in
    record { takes = piece-ended _ end (omega (arith, long at)) (passed at within nz _ (e.within, e.before, e.stop)) last TooLong zero refl }
