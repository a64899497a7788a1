-- A run that is copied as one slice joins the open block (`slice-joined`). Each byte after it is written after the open
-- block's bytes (`written`). It then joins the block (`joined`) or, if it is a zero, closes the block (`Reaches-zero`).
use Rattle.std.proofs.Common.{◌≡◌, ◌+◌, ◌-◌, ℕ, List, drop, get_or, length, length-drop, length-take-le, take, refl, ◌∙◌, arith}
use Rattle.std.proofs.lemmas.List.{get_or-drop, get_or-take, length-set, take-take}
use Rattle.cobs.proofs.encoding.ReachLemmas.{Reaches-at, Reaches-code, Reaches-weaker, Reaches-zero}
use Rattle.cobs.proofs.encoding.TakingLemmas.{front-filled, front-open, front-reaches, joined, slice-joined, written}
use Rattle.cobs.proofs.enc.unbuffered.UnbufferedEncoder.append_stretches.Goals.{then-end-read-gt-SHORT+then-run-lt-SHORT, then-end-read-gt-SHORT+else-run-lt-SHORT, else-end-read-gt-SHORT, then-byte-eq0, else-byte-eq0}
use Rattle.cobs.proofs.enc.unbuffered.UnbufferedEncoder.append_stretches.Goals as goal

-- the piece begins: its first bytes are copied as one slice, or none is
pub by_byte-init : goal.by_byte-init
by_byte-init c =
    let start = front-reaches c.by_piece.invariant.taken (omega arith) in
    let ordered = start.ordered in
    let at : c.by_piece.index + (c.by_piece.next - c.by_piece.index) ≡ c.by_piece.next = omega arith in
    let r = rw at at start in
    elim c.if-end-read-gt-SHORT.branch [
      | then-end-read-gt-SHORT+then-run-lt-SHORT w ↦ rw (w.dest-is, w.next-is, w.read-is, w.end-is, w.copied-is) (record {
        within = omega arith;
        ordered = omega arith;
        some = omega arith;
        short = omega arith;
        reaches = Reaches-at refl (omega arith) refl refl (λ full p lt. absurd (omega arith)) r;
      })
      | then-end-read-gt-SHORT+else-run-lt-SHORT w ↦ rw (w.dest-is, w.next-is, w.read-is, w.end-is, w.copied-is) (record {
        within = omega arith;
        ordered = omega arith;
        some = omega arith;
        short = omega arith;
        reaches = Reaches-at refl (omega arith) refl refl (λ full p lt. p (omega arith)) (slice-joined r (rw (take-take w.position_or_len-copied.result (c.by_piece.read + c.min.result - c.by_piece.read) (drop c.by_piece.read c.args.bytes.now) (omega arith)) at w.position_or_len-copied.ensures.before) (omega arith) (omega arith) (omega arith) (omega arith) (omega arith) w.copy_from_slice.ensures.after);
      })
      | else-end-read-gt-SHORT w ↦ rw (w.dest-is, w.next-is, w.read-is, w.end-is, w.copied-is) (record {
        within = omega arith;
        ordered = omega arith;
        some = omega arith;
        short = omega arith;
        reaches = Reaches-at refl (omega arith) refl refl (λ full p lt. absurd (omega arith)) r;
      })
    ]

-- one more byte is taken
pub by_byte-preserved : goal.by_byte-preserved
by_byte-preserved c =
    let at : ℕ = c.if-end-read-gt-SHORT.read + c.by_byte.byte-index in
    let items : List ℕ = take (c.if-end-read-gt-SHORT.end - c.if-end-read-gt-SHORT.read) (drop c.if-end-read-gt-SHORT.read c.args.bytes.now) in
    let byte : ℕ = get_or items c.by_byte.byte-index 0 in
    let i = c.by_byte.invariant in
    let within = i.within in
    let short = i.short in
    let r = i.reaches in
    let count : length items ≡ c.if-end-read-gt-SHORT.end - c.if-end-read-gt-SHORT.read = grind (arith, length-take-le, length-drop) in
    let is : get_or c.args.bytes.now at 0 ≡ byte = grind (arith, get_or-take, get_or-drop) in
    let long = length-set c.by_byte.dest c.by_byte.next byte in
    elim c.if-byte-eq0.branch [
      -- a zero closes the open block, whose code was written
      | then-byte-eq0 b ↦ rw b.index-is (record { within = within; ordered = i.ordered; some = i.some; short = omega arith; reaches = Reaches-at refl (omega arith) refl refl (λ full p. p) (Reaches-zero (written byte (omega arith) r) (omega arith) (omega arith) (is ∙ b.if-byte-eq0.true) (omega arith) (λ lt. refl)) })
      -- any other byte joins the open block; the byte that was also written in the place of the block's code doesn't
      -- matter (`Reaches-code`)
      | else-byte-eq0 b ↦ rw b.index-is (record { within = within; ordered = i.ordered; some = i.some; short = omega arith; reaches = Reaches-at refl (omega arith) refl refl (λ full p. p) (Reaches-code (Reaches-weaker (joined byte (omega arith) r is b.if-byte-eq0.false (omega arith) (omega arith)) (λ full p lt. p)) _) })
    ]

-- the piece's bytes fill the open block, whose code 255 was written
pub by_piece-preserved-then-next-index-eq-FULL_CODE :
    goal.by_piece-preserved-then-next-index-eq-FULL_CODE
by_piece-preserved-then-next-index-eq-FULL_CODE c =
    let i = c.by_byte.invariant in
    let within = i.within in
    let ordered = i.ordered in
    let count = length-take-le (c.if-end-read-gt-SHORT.end - c.if-end-read-gt-SHORT.read) (drop c.if-end-read-gt-SHORT.read c.args.bytes.now) in
    let long = length-drop c.if-end-read-gt-SHORT.read c.args.bytes.now in
    let all : c.if-end-read-gt-SHORT.read + c.by_byte.byte-index ≡ c.if-end-read-gt-SHORT.end = omega arith in
    record { within = within; taken = rw (← all) (front-filled (omega arith) (omega arith) i.reaches (omega arith) refl) }

-- the open block isn't full
pub by_piece-preserved : goal.by_piece-preserved
by_piece-preserved c =
    let i = c.by_byte.invariant in
    let within = i.within in
    let some = i.some in
    let short = i.short in
    let ordered = i.ordered in
    let index = i.reaches.ordered in
    let count = length-take-le (c.if-end-read-gt-SHORT.end - c.if-end-read-gt-SHORT.read) (drop c.if-end-read-gt-SHORT.read c.args.bytes.now) in
    let long = length-drop c.if-end-read-gt-SHORT.read c.args.bytes.now in
    let all : c.if-end-read-gt-SHORT.read + c.by_byte.byte-index ≡ c.if-end-read-gt-SHORT.end = omega arith in
    record { within = within; taken = rw (← all) (front-open (omega arith) (Reaches-weaker i.reaches (λ full p. p (omega arith))) (omega arith) (omega arith) refl) }
