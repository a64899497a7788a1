-- Lemmas on the reads of a run. A `Read` also records the output at the time of the read. A run that is live (`IsLive`)
-- is still live after one more read (`live-push`) or after several more reads (`live-more`). `once-none` and
-- `once-more` are about reads that are repeated until one of them has a result (`ReadsOnce`).
use Rattle.std.proofs.Common.{◌≡◌, ℕ, List, [], ◌∷◌, ◌++◌, refl, sym, ap, ◌∙◌, subst, append-nil, append_assoc, Option}
use Rattle.std.proofs.lemmas.List.{map-append}
use Rattle.cobs_live.specs.Reads.{HeldWhileNothing, Read, IsLive, IsLiveAfter, ReadsOnce, Runs, came, joined}

-- if the reads xs change the source from a to b, and the reads ys change it from b to c, the reads `xs ++ ys` change it
-- from a to c
pub Runs-append : {S A : Type 0} (step : S → Read A → S → Type 0) (a b c : S) (xs ys : List (Read A)) → Runs step a xs b → Runs step b ys c → Runs step a (xs ++ ys) c
Runs-append step a b c [] ys r s = subst (λ from. Runs step from ys c) (sym r) s
Runs-append step a b c (x ∷ xs) ys r s = (r.0, r.1, Runs-append step r.0 b c xs ys r.2 s)

-- if xs are live after reads with the results `gone`, and ys are live after these and xs, then `xs ++ ys` are live
-- after `gone`
pub live-append : {A : Type 0} (IsRight : List (List A) → Option (List ℕ) → Type 0) (gone : List (List A)) (xs ys : List (Read A)) → IsLiveAfter IsRight gone xs → IsLiveAfter IsRight (gone ++ came xs) ys → IsLiveAfter IsRight gone (xs ++ ys)
live-append {A} IsRight gone [] ys l m = subst (λ (g : List (List A)). IsLiveAfter IsRight g ys) (append-nil gone) m
live-append {A} IsRight gone (x ∷ xs) ys l m = (l.0, l.1, live-append IsRight (gone ++ x.came ∷ []) xs ys l.2 (subst (λ (g : List (List A)). IsLiveAfter IsRight g ys) (sym (append_assoc gone (x.came ∷ []) (came xs))) m))

-- if P for some results implies Q for `front` and these results, reads that are live with P are live with Q after the
-- results `front`
pub live-behind : {A : Type 0} (P Q : List (List A) → Option (List ℕ) → Type 0) (front gone : List (List A)) (reads : List (Read A))
    → ((given : List (List A)) (held : Option (List ℕ)) → P given held → Q (front ++ given) held) → IsLiveAfter P gone reads → IsLiveAfter Q (front ++ gone) reads
live-behind P Q front gone [] h l = tt
live-behind {A} P Q front gone (read ∷ reads) h l = (l.0, h gone read.written l.1, subst (λ (g : List (List A)). IsLiveAfter Q g reads) (sym (append_assoc front gone (read.came ∷ []))) (live-behind P Q front (gone ++ read.came ∷ []) reads h l.2))

-- the elements of the lists of xs, and then those of the lists of ys, are the elements of all lists of `xs ++ ys`
pub joined-append : {A : Type 0} (xs ys : List (List A)) → joined (xs ++ ys) ≡ joined xs ++ joined ys
joined-append [] ys = refl
joined-append {A} (x ∷ xs) ys = ap (λ (l : List A). x ++ l) (joined-append xs ys) ∙ sym (append_assoc x (joined xs) (joined ys))

-- the results of the reads a, and then of the reads of b, are the results of a and then the result `bytes` of b
pub came-more : {S A : Type 0} {step : S → Read A → S → Type 0} {mid source' : S} {written : Option (List ℕ)} {bytes : List A} (a : List (Read A)) (b : ReadsOnce step mid source' written bytes) → joined (came (a ++ b.live.reads)) ≡ joined (came a) ++ bytes
came-more {A = A} a b = ap joined (map-append (λ (r : Read A). r.came) a b.live.reads) ∙ joined-append (came a) (came b.live.reads) ∙ ap (λ (x : List A). joined (came a) ++ x) b.given

-- the reads of a run change the source from `source` to `mid`, and further reads change it from `mid` to `source'`
module _ {S A : Type 0} {step : S → Read A → S → Type 0} {source mid source' : S} {written : Option (List ℕ)} {bytes : List A} where
  -- if the run is live, and its text is right as long as the further reads return nothing, the run with the further
  -- reads is live
  abbrev pub live-more : {P : List (List A) → Option (List ℕ) → Type 0} (a : IsLive step source mid P) → ReadsOnce step mid source' written bytes
      → ((nothing : List (List A)) → joined nothing ≡ [] → P (came a.reads ++ nothing) written) → IsLive step source source' P
  live-more {P} a b right = record {
    reads = a.reads ++ b.live.reads;
    runs = Runs-append step source mid source' a.reads b.live.reads a.runs b.live.runs;
    -- at each further read, P holds, because the further reads before it returned nothing (`right`)
    live = live-append P [] a.reads b.live.reads a.live
        (subst (λ (g : List (List A)). IsLiveAfter P g b.live.reads) (append-nil (came a.reads))
        (live-behind (HeldWhileNothing written) P (came a.reads) [] b.live.reads (λ gone held h. subst (P (came a.reads ++ gone)) (sym h.1) (right gone h.0)) b.live.live));
  }

-- a run without a read is live, whatever P is
abbrev pub live-none : {S A : Type 0} (step : S → Read A → S → Type 0) (source : S) (P : List (List A) → Option (List ℕ) → Type 0) → IsLive step source source P
live-none step source P = record { reads = []; runs = refl; live = tt }

-- before the first read, no read has had a result
pub once-none : {S A : Type 0} (step : S → Read A → S → Type 0) (source : S) (written : Option (List ℕ)) → ReadsOnce step source source written []
once-none step source written = record { live = live-none step source (HeldWhileNothing written); given = refl }

-- if no earlier read had a result, the result of all reads is the result of this read
pub once-more : {S A : Type 0} {step : S → Read A → S → Type 0} {source mid source' : S} {written : Option (List ℕ)} (read : Read A)
    → ReadsOnce step source mid written [] → step mid read source' → read.back ≡ [] → read.written ≡ written → ReadsOnce step source source' written read.came
once-more {A = A} {step = step} {source = source} {mid = mid} {source' = source'} {written = written} read a s back same = record {
  live = record {
    reads = a.live.reads ++ read ∷ [];
    runs = Runs-append step source mid source' a.live.reads (read ∷ []) a.live.runs (source', s, refl);
    live = live-append (HeldWhileNothing written) [] a.live.reads (read ∷ []) a.live.live (back, (a.given, same), tt);
  };
  -- the earlier reads had no result, so the result of this read is the result of all
  given = ap joined (map-append (λ (r : Read A). r.came) a.live.reads (read ∷ [])) ∙ joined-append (came a.live.reads) (read.came ∷ []) ∙ ap (λ (x : List A). x ++ (read.came ++ [])) a.given ∙ append-nil read.came;
}

-- if a run is live, and P holds for its results and for the bytes that the output held at the next read, the run with
-- this read is live
abbrev pub live-push : {S A : Type 0} {step : S → Read A → S → Type 0} {source mid source' : S} {P : List (List A) → Option (List ℕ) → Type 0} (read : Read A)
    → (a : IsLive step source mid P) → step mid read source' → read.back ≡ [] → P (came a.reads) read.written → IsLive step source source' P
live-push {step = step} {source = source} {mid = mid} {source' = source'} {P = P} read a s back right = record {
  reads = a.reads ++ read ∷ [];
  runs = Runs-append step source mid source' a.reads (read ∷ []) a.runs (source', s, refl);
  live = live-append P [] a.reads (read ∷ []) a.live (back, right, tt);
}

-- the results of some reads and one read more
pub came-push : {A : Type 0} (reads : List (Read A)) (read : Read A) → came (reads ++ read ∷ []) ≡ came reads ++ read.came ∷ []
came-push {A} reads read = map-append (λ (r : Read A). r.came) reads (read ∷ [])
