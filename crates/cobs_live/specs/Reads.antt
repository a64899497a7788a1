-- Reads of an input, with the contents of an output at each read.
use Rattle.std.specs.Prelude.{ℕ, ◌≡◌, ◌≤◌, ◌<◌, List, [], ◌∷◌, ◌++◌, length, map, take, Option, Result, Ok, Err, MatchResult}
use Rattle.std.specs.Io.KnownBytes.{Consumes, IsAtEnd, Keeps}
use Rattle.cobs_live.specs.declared.input.AnyInput.{AnyInput}

-- a read: the bytes in the output's buffer when the read began; the bytes that had been written to the output by then,
-- if they are known; and the bytes that the read returned. A failed read returned no bytes.
pub record Read (A : Type 0) : Type 0 where
  pub back : List ℕ
  pub written : Option (List ℕ)
  pub came : List A

-- the bytes that a read returned
abbrev pub given : {E : Type 0} → Result ℕ E → List ℕ → List ℕ
given (Ok n) chunk = take n chunk
given (Err error) chunk = []

-- the effect of a read on the unread bytes of an input, if they are known: the read returns the first of these bytes
-- and removes them. A read returns no bytes only at the end of the input, or if `chunk` is empty.
abbrev pub Takes : (from to : Option (List ℕ)) → ℕ → List ℕ → Type 0
Takes from to n chunk = (n ≤ length chunk) × Consumes from to (take n chunk) × (n ≡ 0 → 0 < length chunk → IsAtEnd to)

-- the effect of a read with this result (`Takes`); a read that failed removes nothing
abbrev pub ReadTakes : {E : Type 0} → (from to : Option (List ℕ)) → Result ℕ E → List ℕ → Type 0
ReadTakes from to result chunk = MatchResult result (λ n. Takes from to n chunk) (λ _. Keeps from to)

-- the elements of all lists, one list after the other
abbrev pub joined : {A : Type 0} → List (List A) → List A
joined [] = []
joined (xs ∷ xss) = xs ++ joined xss

-- the results of the reads
abbrev pub came : {A : Type 0} → List (Read A) → List (List A)
came reads = map (λ read. read.came) reads

-- the reads change an input from the state `from` to the state `to`, each read by one step
abbrev pub Runs : {S A : Type 0} → (S → Read A → S → Type 0) → S → List (Read A) → S → Type 0
Runs step from [] to = from ≡ to
Runs {S} step from (read ∷ reads) to = (next : S) × step from read next × Runs step next reads to

-- these reads follow reads with the results `gone`. At each of these reads the output's buffer is empty, and the text
-- written so far is right for the results of all earlier reads.
abbrev pub IsLiveAfter : {A : Type 0} → (List (List A) → Option (List ℕ) → Type 0) → List (List A) → List (Read A) → Type 0
IsLiveAfter IsRight gone [] = Unit {0}
IsLiveAfter IsRight gone (read ∷ reads) = (read.back ≡ []) × IsRight gone read.written × IsLiveAfter IsRight (gone ++ read.came ∷ []) reads

-- LIVE: a run made reads that changed the input from the state `source` to the state `source'`. At each read the
-- output's buffer was empty, and the text written so far was right for the results of the earlier reads.
pub record IsLive {S A : Type 0} (step : S → Read A → S → Type 0) (source source' : S) (IsRight : List (List A) → Option (List ℕ) → Type 0) : Type 0 where
  pub reads : List (Read A)
  pub runs : Runs step source reads source'
  pub live : IsLiveAfter IsRight [] reads

-- at a read, the output held the bytes `written`, and no earlier read had a result
abbrev pub HeldWhileNothing : {A : Type 0} → Option (List ℕ) → List (List A) → Option (List ℕ) → Type 0
HeldWhileNothing written gone held = (joined gone ≡ []) × (held ≡ written)

-- `all` has the results of all reads. No read was made after a read that had a result, and at each read the output held
-- the bytes `written`.
pub record ReadsOnce {S A : Type 0} (step : S → Read A → S → Type 0) (source source' : S) (written : Option (List ℕ)) (all : List A) : Type 0 where
  pub live : IsLive step source source' (HeldWhileNothing written)
  pub given : joined (came live.reads) ≡ all

-- the reader of an `AnyInput`
abbrev pub reader_of : {R : Type 0} → AnyInput R → R
reader_of input = input.reader
