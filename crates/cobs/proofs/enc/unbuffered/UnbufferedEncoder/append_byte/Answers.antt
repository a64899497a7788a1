-- A zero closes the open block, and any other byte joins or fills it: the three steps of `ByteLemmas`.
use Rattle.std.proofs.Common.{refl, arith}
use Rattle.cobs.proofs.encoding.ByteLemmas.{byte-fills, byte-joins, byte-zero, is-place}
use Rattle.cobs.proofs.enc.unbuffered.UnbufferedEncoder.append_byte.Goals as goal

pub returns : goal.returns
returns c = λ behind fits.
    -- the `requires` say that the state is possible, as the three lemmas need
    let place = is-place c.args.self.now _ c.requires.open_block c.requires.room in
    elim c.if-byte-eq0.branch [
      -- a zero closes the open block
      | goal.then-byte-eq0 w ↦ rw (w.self-is, w.dest-is, w.code-is) (byte-zero place fits (omega arith) (omega arith) w.if-byte-eq0.true (omega arith) refl)
      -- the byte is the 254th byte of the open block
      | goal.else-byte-eq0+then-code-eq-FULL_BLOCK_BYTES w ↦ rw (w.self-is, w.dest-is, w.code-is) (byte-fills place fits (omega arith) (omega arith) w.if-byte-eq0.false (omega arith) refl)
      -- any other byte joins the open block
      | goal.else-byte-eq0+else-code-eq-FULL_BLOCK_BYTES w ↦ rw (w.self-is, w.dest-is, w.code-is) (byte-joins place fits (omega arith) (omega arith) w.if-byte-eq0.false (omega arith) (omega arith) refl)
    ]
