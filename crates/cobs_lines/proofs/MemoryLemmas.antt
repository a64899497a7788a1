-- Lemmas on bytes in memory as the source of a stream: a read returns the first 64 bytes that are left, or all of them
-- (`TakesChunk-read`), no read fails (`never_fails`), and the bytes that a source had before some reads are those that
-- the reads returned and those that are left (`bytes_left-Runs`).
use Rattle.std.proofs.Common.{◌≡◌, ◌+◌, ◌*◌, ◌-◌, ◌<◌, ℕ, List, [], ◌∷◌, ◌++◌, length, take, drop, min, inl, inr, Result, Ok, Err, Some, None, All, ap, sym, ◌∙◌, arith, append_assoc, take-append-drop, length-take, length-drop, take_all}
use Rattle.std.proofs.Math.Seq.{take-append_seam}
use Rattle.std.proofs.lemmas.Bool.{cases_lt}
use Rattle.std.proofs.lemmas.List.{drop_all}
use Rattle.std.proofs.lemmas.List.Elements.{All-head, All-tail}
use Rattle.std.specs.Option.{option_map}
use Rattle.std.specs.Result.{result_ok, IfOk}
use Rattle.cobs.specs.NextFrame.{Read, bytes_given, GaveBytes, all_given, Runs}
use Rattle.cobs_lines.specs.Memory.{TakesChunk, bytes_left}
use Rattle.cobs_lines.specs.declared.memory.InMemory.{InMemory}

-- if n is 64 or, for fewer bytes, their number, the first n bytes are the first 64 bytes
take_least : (xs : List ℕ) (n : ℕ) → n ≡ min (length xs) 64 → take n xs ≡ take 64 xs
take_least xs n e = elim (cases_lt (length xs) 64) [
  | inl short ↦ take_all n xs (omega arith) ∙ sym (take_all 64 xs (omega arith))
  | inr long ↦
      let whole : n ≡ 64 = omega arith in
      ap (λ k. take k xs) whole
]

-- for the same n, the bytes after the first n are the bytes after the first 64
drop_least : (xs : List ℕ) (n : ℕ) → n ≡ min (length xs) 64 → drop n xs ≡ drop 64 xs
drop_least xs n e = elim (cases_lt (length xs) 64) [
  | inl short ↦ drop_all n xs (omega arith) ∙ sym (drop_all 64 xs (omega arith))
  | inr long ↦
      let whole : n ≡ 64 = omega arith in
      ap (λ k. drop k xs) whole
]

-- If a read copied the first n bytes that were left to the front of `chunk`, and removed them from `left`, the read is
-- a step of the source (`TakesChunk`). n is the length of `chunk`, which is 64, or the number of bytes that were left
-- if this is less.
pub TakesChunk-copied : (left chunk chunk' left' : List ℕ) (n : ℕ) → length chunk ≡ 64 → n ≡ min (length left) (length chunk)
    → chunk' ≡ take n left ++ drop n chunk → left' ≡ drop n left → TakesChunk left (Some (take n chunk')) left'
TakesChunk-copied left chunk chunk' left' n long count copied rest =
    -- n is at most 64, and as many bytes were left
    let least : n ≡ min (length left) 64 = omega arith in
    let whole : length (take n left) ≡ n = omega (arith, length-take n left) in
    record {
      gives = ap Some (ap (take n) copied ∙ ap (λ k. take k (take n left ++ drop n chunk)) (sym whole) ∙ take-append_seam (take n left) (drop n chunk) ∙ take_least left n least);
      leaves = rest ∙ drop_least left n least;
    }

-- a read whose result r is the number of copied bytes is a step of the source; the read doesn't fail, so r isn't an
-- error
pub TakesChunk-read : {E : Type 0} (r : Result ℕ E) (left chunk chunk' left' : List ℕ) → length chunk ≡ 64 → r ≡ Ok (min (length left) (length chunk))
    → IfOk r (λ n. chunk' ≡ take n left ++ drop n chunk) → IfOk r (λ n. left' ≡ drop n left)
    → TakesChunk left (option_map (λ n. take n chunk') (result_ok r)) left'
TakesChunk-read (Ok n) left chunk chunk' left' long count copied rest = TakesChunk-copied left chunk chunk' left' n long (cc) copied rest
TakesChunk-read (Err e) left chunk chunk' left' long count copied rest = absurd cc

-- the relation `step` of `Runs` for this source: a read changes the source from the state `from` to the state `to`
abbrev pub MemoryStep : InMemory → Read → InMemory → Type 0
MemoryStep from read to = TakesChunk (bytes_left from) read (bytes_left to)

-- the bytes of a source before some reads are the bytes that the reads returned, and then those that are left
pub bytes_left-Runs : (from : InMemory) (reads : List Read) (to : InMemory) → Runs MemoryStep from reads to
    → bytes_left from ≡ all_given reads ++ bytes_left to
bytes_left-Runs from [] to same = ap bytes_left same
bytes_left-Runs from (read ∷ reads) to (next, step, more) =
    sym (take-append-drop 64 (bytes_left from))
    ∙ ap (λ l. l ++ drop 64 (bytes_left from)) (sym (ap bytes_given step.gives))
    ∙ ap (λ l. bytes_given read ++ l) (sym step.leaves ∙ bytes_left-Runs next reads to more)
    ∙ sym (append_assoc (bytes_given read) (all_given reads) (bytes_left to))

-- no read of this source fails: a list of reads whose last read failed is impossible
pub never_fails : (from : InMemory) (earlier : List Read) (to : InMemory) → Runs MemoryStep from (earlier ++ None ∷ []) to → ⊥
never_fails from [] to (next, step, more) = let given = step.gives in cc
never_fails from (read ∷ earlier) to (next, step, more) = never_fails next earlier to more

-- after a read that returned no bytes, no byte is left
pub bytes_left-at_end : (from : InMemory) (earlier : List Read) (to : InMemory) → Runs MemoryStep from (earlier ++ Some [] ∷ []) to → bytes_left to ≡ []
bytes_left-at_end from [] to (next, step, more) =
    -- the read returned no byte, so there was none, and none is left
    let none : length (take 64 (bytes_left from)) ≡ 0 = ap length (sym (ap bytes_given step.gives)) in
    sym (ap bytes_left more) ∙ step.leaves ∙ drop_all 64 (bytes_left from) (omega (arith, length-take 64 (bytes_left from)))
bytes_left-at_end from (read ∷ earlier) to (next, step, more) = bytes_left-at_end next earlier to more

-- if each read returned at least one byte, 64 times the number of reads is less than the number of bytes plus 64,
-- because each read except the last one returned 64 bytes
pub few_reads : (from : InMemory) (reads : List Read) (to : InMemory) → Runs MemoryStep from reads to → All GaveBytes reads
    → 64 * length reads < length (bytes_left from) + 64
few_reads from [] to same gave = omega arith
few_reads from (read ∷ reads) to (next, step, more) gave =
    let before = bytes_left from in
    -- the first read returned the first 64 bytes (`given`), the others are left (`behind`), and the lemma holds for the
    -- other reads (`fewer`)
    let given : bytes_given read ≡ take 64 before = ap bytes_given step.gives in
    let behind : length (bytes_left next) ≡ length before - 64 = ap length step.leaves ∙ length-drop 64 before in
    let fewer = few_reads next reads to more (All-tail GaveBytes read reads gave) in
    elim (cases_lt 0 (length before)) [
      | inl some ↦ omega arith
      | inr none ↦ absurd (All-head GaveBytes read reads gave (given ∙ take_all 64 before (omega arith) ∙ drop_all 0 before none))
    ]
