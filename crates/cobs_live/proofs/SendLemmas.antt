-- Lemmas on a run of `send`. `SentSoFar` is the state between two lines: the lines that were read and sent so far. One
-- line more is sent (`SentSoFar-more`) or can't be sent (`SentSoFar-skipped`). The run ends at the end of the input
-- (`sent_all`), or with bytes that were read and not sent (`unsent`, `send_failed`). `AreFirst` says that the lines so
-- far are the first lines of the input.
use Rattle.std.proofs.Common.{◌≡◌, ◌≢◌, ◌↔◌, ◌==◌, ℕ, Bool, true, false, IsTrue, All, List, [], ◌∷◌, ◌++◌, refl, ap, ◌∙◌, append-nil, sym, subst, append_assoc, ⊎_elim, Option, Some, None, IfSome, Result, Ok, Err}
use Rattle.std.proofs.lemmas.Bool.{cases_Bool}
use Rattle.std.specs.Prelude.{IsErrAnd}
use Rattle.std.specs.List.{AllZip, concat}
use Rattle.std.proofs.lemmas.List.Elements.{All-nil, All-pop, All-push}
use Rattle.std.proofs.lemmas.List.Folds.{concat-append}
use Rattle.std.proofs.KnownBytes.{Appends-kept, Appends-nil, Appends-trans, Consumes-nil, Consumes-trans}
use Rattle.std.specs.Io.{StopsAt}
use Rattle.std.specs.Io.BufRead.{take_through, drop_through, DropsThrough}
use Rattle.std.specs.Io.KnownBytes.{Appends, Consumes, IsAtEnd, Keeps}
use Rattle.cobs_live.specs.Reads.{IsLive, Read, came}
use Rattle.cobs_live.proofs.ReadLemmas.{live-push}
use Rattle.cobs_live.specs.Sent.{HoldsFrames, HasSent, HasSentAll, HasSentLines, IsSendable, SendsText, in_front, lines_of, text_of}
use Rattle.cobs_live.specs.declared.send.Settings.{Settings}
use Rattle.cobs_live.specs.declared.fault.WatchFault.{WatchFault}
use Rattle.cobs_live.specs.declared.fault.WatchFault.TheVariants.{ReadFailed, WriteFailed, OutputClosed, OutOfMemory}

-- if R holds between the elements of two lists of the same length, and between x and y, it holds between the elements
-- of the lists with x and y appended
pub zip_push : {A B : Type 0} (R : A → B → Type 0) (xs : List A) (ys : List B) (x : A) (y : B) → AllZip R xs ys → R x y → AllZip R (xs ++ x ∷ []) (ys ++ y ∷ [])
zip_push R [] [] x y z r = (r, tt)
zip_push R [] (b ∷ ys) x y z r = absurd z
zip_push R (a ∷ xs) [] x y z r = absurd z
zip_push R (a ∷ xs) (b ∷ ys) x y z r = (z.0, zip_push R xs ys x y z.1 r)

-- the lines of bytes that aren't empty are their first line, which ends with the first newline (10) or with the last
-- byte, and then the lines of the other bytes
lines_of-first : (bytes : List ℕ) → bytes ≢ [] → lines_of bytes ≡ take_through 10 bytes ∷ lines_of (drop_through 10 bytes)
unfolding lines_of
lines_of-first [] some = absurd (some refl)
lines_of-first (b ∷ []) some = ⊎_elim
    (λ (ends : (b == 10) ≡ true). rw ends refl)
    (λ (goes_on : (b == 10) ≡ false). rw goes_on refl)
    (cases_Bool (b == 10))
lines_of-first (b ∷ c ∷ bytes) some = ⊎_elim
    (λ (ends : (b == 10) ≡ true). rw ends refl)
    (λ (goes_on : (b == 10) ≡ false). rw goes_on (ap (in_front b) (lines_of-first (c ∷ bytes) (λ none. absurd cc))))
    (cases_Bool (b == 10))

-- if the reader's bytes are known, the lines of its bytes before the reads (`from`) are these lines, and then the lines
-- of the bytes that are left (`to`)
abbrev pub AreFirst : (from to : Option (List ℕ)) → List (List ℕ) → Type 0
AreFirst from to lines = IfSome from (λ xs. IfSome to (λ ys. lines_of xs ≡ lines ++ lines_of ys))

-- before the first line, no line was read
pub start-AreFirst : (from : Option (List ℕ)) → AreFirst from from []
start-AreFirst None = tt
start-AreFirst (Some xs) = refl

-- if one more line was read, up to and including the first newline or up to the end, the lines with this line are the
-- first lines
pub more-AreFirst : (from to to' : Option (List ℕ)) (lines : List (List ℕ)) (read line : List ℕ) → Consumes from to read → AreFirst from to lines → line ≢ []
    → IfSome to (λ ys. line ≡ take_through 10 ys) → DropsThrough to to' 10 → AreFirst from to' (lines ++ line ∷ [])
more-AreFirst None to to' lines read line r first some through left = tt
more-AreFirst (Some xs) None to' lines read line r first some through left = absurd r
more-AreFirst (Some xs) (Some ys) to' lines read line r first some through left =
    -- the first line of the bytes that were left is the line that was read
    let next : lines_of ys ≡ line ∷ lines_of (drop_through 10 ys) = rw through (lines_of-first ys (λ none. some (through ∙ ap (take_through 10) none))) in
    subst (λ (t : Option (List ℕ)). IfSome t (λ zs. lines_of xs ≡ (lines ++ line ∷ []) ++ lines_of zs)) (sym left)
    (first ∙ ap (λ (l : List (List ℕ)). lines ++ l) next ∙ sym (append_assoc lines (line ∷ []) (lines_of (drop_through 10 ys))))

-- so all lines of the reader's bytes are the lines that were read, and perhaps more lines
first-lines : (from to : Option (List ℕ)) (lines : List (List ℕ)) (read : List ℕ) → Consumes from to read → AreFirst from to lines → IfSome from (λ bytes. (more : List (List ℕ)) × (lines_of bytes ≡ lines ++ more))
first-lines None to lines read r first = tt
first-lines (Some xs) None lines read r first = absurd r
first-lines (Some xs) (Some ys) lines read r first = (lines_of ys, first)

-- at the end of the input, the lines that were read are all lines of the reader's bytes
all-lines : (from to : Option (List ℕ)) (lines : List (List ℕ)) (read : List ℕ) → Consumes from to read → AreFirst from to lines → IsAtEnd to → IfSome from (λ bytes. lines ≡ lines_of bytes)
unfolding lines_of
all-lines None to lines read r first end = tt
all-lines (Some xs) None lines read r first end = absurd r
all-lines (Some xs) (Some ys) lines read r first end = sym (first ∙ ap (λ (l : List ℕ). lines ++ lines_of l) end ∙ append-nil lines)

-- a reader that was at its end, and then returned no byte, is still at its end
still-at_end : (from to to' : Option (List ℕ)) (read : List ℕ) → Consumes from to read → IsAtEnd to → Consumes to to' [] → IfSome from (λ bytes. IsAtEnd to')
still-at_end None to to' read r end none = tt
still-at_end (Some xs) None to' read r end none = absurd r
still-at_end (Some xs) (Some ys) None read r end none = absurd none
still-at_end (Some xs) (Some ys) (Some zs) read r end none = sym none ∙ end

-- if a flag says whether each element has the property P, and x has it too, the flag says whether each element has it,
-- including x
pub flag_kept : (P : List ℕ → Type 0) (xs : List (List ℕ)) (x : List ℕ) (flag : Bool) → (IsTrue flag ↔ All P xs) → P x → (IsTrue flag ↔ All P (xs ++ x ∷ []))
flag_kept P xs x flag h p = (λ e. All-push P xs x (h.0 e) p, λ all. h.1 (All-pop P (xs ++ x ∷ []) xs (Some x) refl all).0)

-- if x doesn't have the property P, the flag false is right for the elements including x
pub flag_lost : (P : List ℕ → Type 0) (xs : List (List ℕ)) (x : List ℕ) → (P x → ⊥) → (IsTrue false ↔ All P (xs ++ x ∷ []))
flag_lost P xs x missing = (λ e. absurd cc, λ all. absurd (missing (All-pop P (xs ++ x ∷ []) xs (Some x) refl all).1))

-- the state between two lines: the lines that were read so far, the bytes that were sent for each line, and a flag that
-- says whether each line could be sent
pub record SentSoFar (settings : Settings) (all_sent : Bool) (from to before after : Option (List ℕ)) : Type 0 where
  pub lines : List (List ℕ)
  pub first : AreFirst from to lines
  pub each_stops : All (λ line. StopsAt line 10) lines
  pub sent : List (List ℕ)
  pub each : AllZip (λ line bytes. SendsText settings (text_of line) bytes) lines sent
  pub read : Consumes from to (concat lines)
  pub written : Appends before after (concat sent)
  pub flag : IsTrue all_sent ↔ All (λ line. IsSendable settings (text_of line)) lines

-- before the first line, nothing was read or sent
abbrev pub SentSoFar-start : (settings : Settings) (from before : Option (List ℕ)) → SentSoFar settings true from from before before
SentSoFar-start settings from before = record {
  lines = [];
  first = start-AreFirst from;
  each_stops = All-nil (λ (l : List ℕ). StopsAt l 10);
  sent = [];
  each = tt;
  read = Consumes-nil from;
  written = Appends-nil before;
  flag = (λ _. All-nil (λ (l : List ℕ). IsSendable settings (text_of l)), λ _. refl);
}

-- one more line was read after the state s, and these bytes were written for it
module _ {settings : Settings} {all_sent : Bool} {from to to' before after after' : Option (List ℕ)} (line bytes : List ℕ) (s : SentSoFar settings all_sent from to before after)
    (some : line ≢ []) (through : IfSome to (λ ys. line ≡ take_through 10 ys)) (left : DropsThrough to to' 10)
    (stops : StopsAt line 10) (r : Consumes to to' line) (t : SendsText settings (text_of line) bytes) (w : Appends after after' bytes) where
  -- the state with this line, for any flag that is right for all lines (`all`)
  abbrev SentSoFar-with : (flag : Bool) → (IsTrue flag ↔ All (λ l. IsSendable settings (text_of l)) (s.lines ++ line ∷ [])) → SentSoFar settings flag from to' before after'
  SentSoFar-with flag all = record {
    lines = s.lines ++ line ∷ [];
    -- the lines with this line are the first lines of the reader, and none has a newline before its last byte
    first = more-AreFirst from to to' s.lines (concat s.lines) line s.read s.first some through left;
    each_stops = All-push (λ (l : List ℕ). StopsAt l 10) s.lines line s.each_stops stops;
    sent = s.sent ++ bytes ∷ [];
    -- the bytes of this line were written after those of the earlier lines
    each = zip_push _ s.lines s.sent line bytes s.each t;
    -- the reader consumed the lines so far and this line; the output got the bytes so far and those of this line
    -- (`written`)
    read = rw (concat-append s.lines (line ∷ []), append-nil) (Consumes-trans from to to' _ line s.read r);
    written = rw (concat-append s.sent (bytes ∷ []), append-nil) (Appends-trans before after after' _ bytes s.written w);
    flag = all;
  }

  -- if the line could be sent, the flag stays as it was
  abbrev pub SentSoFar-more : (flag : Bool) → flag ≡ all_sent → IsSendable settings (text_of line) → SentSoFar settings flag from to' before after'
  SentSoFar-more flag same sendable = SentSoFar-with flag (rw same (flag_kept (λ l. IsSendable settings (text_of l)) s.lines line all_sent s.flag sendable))

  -- if the line couldn't be sent, the flag is false
  abbrev pub SentSoFar-skipped : (flag : Bool) → flag ≡ false → (IsSendable settings (text_of line) → ⊥) → SentSoFar settings flag from to' before after'
  SentSoFar-skipped flag none missing = SentSoFar-with flag (rw none (flag_lost (λ l. IsSendable settings (text_of l)) s.lines line missing))

-- the state of a run that has been live so far: at each read, the frames of all earlier lines had been written; the
-- results of the reads are the lines that were read
pub record IsLiveSoFar {S : Type 0} (step : S → Read ℕ → S → Type 0) (source source' : S) (settings : Settings) (all_sent : Bool) (from to before after : Option (List ℕ)) : Type 0 where
  pub so_far : SentSoFar settings all_sent from to before after
  pub live : IsLive step source source' (HoldsFrames settings before)
  pub same : came live.reads ≡ so_far.lines

-- the run is still live with its next read, at which the output held the frames of all lines so far
abbrev pub live-read : {S : Type 0} {step : S → Read ℕ → S → Type 0} {source mid source' : S} {settings : Settings} {all_sent : Bool} {from to before after : Option (List ℕ)} (read : Read ℕ)
    → IsLiveSoFar step source mid settings all_sent from to before after → step mid read source' → read.back ≡ [] → read.written ≡ after → IsLive step source source' (HoldsFrames settings before)
live-read {settings = settings} {before = before} read s r back same = live-push read s.live r back
    (record { sent = s.so_far.sent; each = rw s.same s.so_far.each; written = rw same s.so_far.written })

-- if the bytes `rest` were read after the lines so far and nothing was written for them, `HasSentLines` holds with this
-- rest
pub unsent : {settings : Settings} {all_sent : Bool} {from to before after : Option (List ℕ)} (to' after' : Option (List ℕ)) (rest : List ℕ) → SentSoFar settings all_sent from to before after
    → StopsAt rest 10 → Consumes to to' rest → Keeps after after' → (rest : List ℕ) × HasSentLines settings rest from to' before after'
unsent {from = from} {to} {before} {after} to' after' rest s stops r kept = (
  rest,
  record {
    lines = s.lines;
    -- the lines so far are the first lines of the reader
    first = first-lines from to s.lines (concat s.lines) s.read s.first;
    each_stops = s.each_stops;
    rest_stops = stops;
    sent = s.sent;
    each = s.each;
    -- the reader consumed the lines so far and `rest`, and the output has only the bytes of the lines
    read = Consumes-trans from to to' (concat s.lines) rest s.read r;
    written = Appends-kept before after after' _ s.written kept;
  },
)

-- if sending a line failed, `HasSent` holds for the fault: the line was read and not sent if memory ran out, and after
-- a failed write nothing is claimed
pub send_failed : {settings : Settings} {all_sent : Bool} {from to before after : Option (List ℕ)} (to' after' : Option (List ℕ)) (line : List ℕ) (result : Result Bool WatchFault)
    → IsErrAnd result (λ fault. (fault ≢ ReadFailed) × (fault ≡ OutOfMemory → Keeps after after')) → SentSoFar settings all_sent from to before after → StopsAt line 10 → Consumes to to' line
    → HasSent settings result from to' before after'
send_failed to' after' line (Err ReadFailed) e s stops r = absurd (e.0 refl)
send_failed to' after' line (Err OutOfMemory) e s stops r = unsent to' after' line s stops r (e.1 refl)
send_failed to' after' line (Err WriteFailed) e s stops r = tt
send_failed to' after' line (Err OutputClosed) e s stops r = tt
send_failed to' after' line (Ok sent) e s stops r = absurd e

-- if the last read returned no byte at the end of the input, all lines have been read and sent (`HasSentAll`)
pub sent_all : {settings : Settings} {all_sent : Bool} {from to before after : Option (List ℕ)} (to' : Option (List ℕ)) (given : List ℕ) → SentSoFar settings all_sent from to before after
    → Consumes to to' given → given ≡ [] → IsAtEnd to → HasSentAll settings all_sent from to' before after
sent_all {from = from} {to} to' given s r none end =
    -- this read consumed no byte
    let nothing : Consumes to to' [] = rw none at r in
    record {
      so_far = record {
        lines = s.lines;
        -- the lines so far are the first lines of the reader
        first = first-lines from to s.lines (concat s.lines) s.read s.first;
        each_stops = s.each_stops;
        rest_stops = All-nil (λ (b : ℕ). b ≢ 10);
        sent = s.sent;
        each = s.each;
        read = Consumes-trans from to to' (concat s.lines) [] s.read nothing;
        written = s.written;
      };
      -- at the end of the input, these are all lines, and the reader is still at its end
      all = all-lines from to s.lines (concat s.lines) s.read s.first end;
      end = still-at_end from to to' (concat s.lines) s.read end nothing;
      flag = s.flag;
    }
