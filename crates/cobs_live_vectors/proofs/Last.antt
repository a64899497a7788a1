-- A lemma on the last of the reads that were recorded.
use Rattle.std.proofs.Common.{◌≡◌, ℕ, List, [], ◌∷◌, ◌++◌, inl, inr, sym, ap, ◌∙◌, Option}
use Rattle.cobs_live.specs.Reads.{IsLive, IsLiveAfter, Read, Runs}
use Rattle.cobs_live_vectors.specs.Recorded.{IsRightAtLast, len_of}

module _ {S A : Type 0} (step : S → Read A → S → Type 0) (written : S → ℕ) (recorded : (from to : S) (read : Read A) → step from read to → written to ≡ len_of read.written)
    (P : List (List A) → Option (List ℕ) → Type 0) where
  -- the reads follow reads with the results `gone`
  right_behind : (from to : S) (gone : List (List A)) (reads : List (Read A)) → Runs step from reads to → IsLiveAfter P gone reads → IsRightAtLast from to (written to) P
  right_behind from to gone [] r l = inl (sym r)
  right_behind from to gone (read ∷ reads) r l = elim (right_behind r.0 to (gone ++ read.came ∷ []) reads r.2 l.2) [
    | inl same ↦ inr (gone, read.written, l.1, ap written same ∙ recorded from r.0 read r.1)
    | inr found ↦ inr found
  ]

  -- the reads of a run that is live
  pub right_at_last : (from to : S) → IsLive step from to P → IsRightAtLast from to (written to) P
  right_at_last from to live = right_behind from to [] live.reads live.runs live.live
