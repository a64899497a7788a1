-- The length of the frame is the length of the closed blocks and the length of the frame of the other bytes. One byte
-- more closes the open block (`close_full`, `close_zero`) or joins it (`one_more`), by `law_15`. The bytes of the open
-- block may be replaced by ones, so their number `run` is enough.
-- `law_4`: The length of a frame, and its bound.
-- `law_15`: How to count the length of a frame, block by block.
use Rattle.std.proofs.Common.{◌≡◌, ◌≢◌, ◌<◌, ◌≤◌, ◌+◌, ◌∙◌, ℕ, List, [], ◌∷◌, ◌++◌, length, replicate, drop, drop-cons, get_or, sym, ap, add-one, arith, append_assoc, length-append}
use Rattle.std.proofs.lemmas.List.{length-replicate}
use Rattle.std.proofs.lemmas.List.Elements.{All-append, All-cons, All-nil, All-replicate}
use Rattle.cobs.specs.Grammar.{HasNoZero}
use Rattle.cobs.specs.Length.{encoded_len}
use Rattle.cobs_vectors.proofs.own_coders.frame_len.Goals as goal
use Rattle.cobs_vectors.proofs.own_coders.frame_len.Goals.{else-byte-eq0, else-run-eq254, then-byte-eq0, then-run-eq254}

-- ones contain no zero
ones : (run : ℕ) → HasNoZero (replicate run 1)
ones run = All-replicate (λ b. b ≢ 0) run 1 (λ e. absurd cc)

-- the frame is at least as long as the open block, which has `run` bytes after its code, by the clause `lower` of
-- `law_4`
least : ((m : List ℕ) → length m + 1 ≤ encoded_len m) → (run : ℕ) (rest : List ℕ) → run + 1 ≤ encoded_len (replicate run 1 ++ rest)
least lower run rest = grind (arith, length-append, length-replicate)

-- if the open block has 254 bytes after its code, and more bytes follow, it is closed: its 255 bytes are added to the
-- closed blocks.
-- `full` is a clause of `law_15`.
close_full : ((a m : List ℕ) → length a ≡ 254 → HasNoZero a → m ≢ [] → encoded_len (a ++ m) ≡ 255 + encoded_len m)
    → (closed run : ℕ) (rest : List ℕ) → run ≡ 254 → rest ≢ [] → closed + encoded_len (replicate run 1 ++ rest) ≡ closed + 255 + encoded_len rest
close_full full closed run rest is some = grind (arith, length-replicate, ones)

-- a zero closes the open block: the code and the `run` bytes are added to the closed blocks. `zero` is a clause of
-- `law_15`.
close_zero : ((a m : List ℕ) → length a < 254 → HasNoZero a → encoded_len (a ++ 0 ∷ m) ≡ length a + 1 + encoded_len m)
    → (closed run : ℕ) (rest : List ℕ) → run < 254 → closed + encoded_len (replicate run 1 ++ 0 ∷ rest) ≡ closed + (run + 1) + encoded_len rest
close_zero zero closed run rest short = grind (arith, length-replicate, ones)

-- a nonzero byte joins the open block, and may be replaced by a one; `same` is a clause of `law_15`
one_more : ((a b m : List ℕ) → HasNoZero a → HasNoZero b → length a ≡ length b → encoded_len (a ++ m) ≡ encoded_len (b ++ m))
    → (run byte : ℕ) (rest : List ℕ) → byte ≢ 0 → encoded_len (replicate run 1 ++ byte ∷ rest) ≡ encoded_len (replicate (run + 1) 1 ++ rest)
one_more same run byte rest nonzero =
    ap encoded_len (sym (append_assoc (replicate run 1) (byte ∷ []) rest))
    ∙ same (replicate run 1 ++ byte ∷ []) (replicate (run + 1) 1) rest (All-append (λ b. b ≢ 0) (replicate run 1) (byte ∷ []) (ones run) (All-cons (λ b. b ≢ 0) byte [] nonzero (All-nil (λ b. b ≢ 0)))) (ones (run + 1)) (omega (arith, length-append (replicate run 1) (byte ∷ []), length-replicate {A = ℕ} run 1, length-replicate {A = ℕ} (run + 1) 1))

-- one byte more: first, a full block is closed, and then the byte closes the open block or joins it
pub by_byte-preserved : goal.by_byte-preserved
by_byte-preserved c =
    let m : List ℕ = c.args.message.now in
    let i : ℕ = c.by_byte.byte-index in
    let byte : ℕ = get_or m i 0 in
    let rest : List ℕ = drop (i + 1) m in
    -- the bytes from the index on are this byte and the bytes after it (`rest`)
    let left : drop i m ≡ byte ∷ rest = drop-cons m i 0 c.by_byte-test.true ∙ ap (λ n. byte ∷ drop n m) (sym (add-one i)) in
    let same = c.law_15.ensures.same in
    -- after the first `if`, the length is still right, and the open block isn't full
    let now : (encoded_len m ≡ c.if-run-eq254.closed + encoded_len (replicate c.if-run-eq254.run 1 ++ byte ∷ rest)) × (c.if-run-eq254.run < 254) = elim c.if-run-eq254.branch [
      -- the open block was full, and is closed
      | then-run-eq254 w ↦
          let e = close_full c.law_15.ensures.full c.by_byte.closed c.by_byte.run (byte ∷ rest) w.if-run-eq254.true (λ none. absurd cc) in
          rw (w.closed-is, w.run-is) (c.by_byte.invariant.counted ∙ ap (λ l. c.by_byte.closed + encoded_len (replicate c.by_byte.run 1 ++ l)) left ∙ e, omega arith)
      -- the open block wasn't full, and nothing changed
      | else-run-eq254 w ↦
          let short = c.by_byte.invariant.short in
          let other = w.if-run-eq254.false in
          rw (w.closed-is, w.run-is) (c.by_byte.invariant.counted ∙ ap (λ l. c.by_byte.closed + encoded_len (replicate c.by_byte.run 1 ++ l)) left, omega arith)
    ] in
    elim c.if-byte-eq0.branch [
      -- a zero closes the open block
      | then-byte-eq0 w ↦
          let zero = now.0 ∙ ap (λ b. c.if-run-eq254.closed + encoded_len (replicate c.if-run-eq254.run 1 ++ b ∷ rest)) w.if-byte-eq0.true in
          rw (w.closed-is, w.run-is) (record { counted = zero ∙ close_zero c.law_15.ensures.zero _ _ rest now.1; short = omega arith })
      -- a nonzero byte joins the open block
      | else-byte-eq0 w ↦
          let longer = one_more same c.if-run-eq254.run byte rest w.if-byte-eq0.false in
          rw (w.closed-is, w.run-is) (record { counted = now.0 ∙ ap (λ (n : ℕ). c.if-run-eq254.closed + n) longer; short = omega (arith, now.1) })
    ]
