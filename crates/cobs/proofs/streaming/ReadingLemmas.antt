-- Lemmas for `next_frame`, which makes one read after another until a piece ends; its contract is `ReadsNext`. `Going`
-- says that the reads so far returned bytes, and that no piece has ended. A further read preserves `Going`
-- (`Going-push`), or the call ends. For each end of the call a lemma shows `ReadsNext`: a piece ends in the kept bytes
-- (`ReadsNext-kept`) or in the bytes of a read (`ReadsNext-piece`), the source ends (`ReadsNext-end`), a read fails
-- (`ReadsNext-failed`), or too many reads were made (`ReadsNext-too_many`). The proofs use `StreamLemmas`, whose lemmas
-- cut a stream in two.
use Rattle.std.proofs.Common.{◌≡◌, ◌≢◌, ℕ, ◌+◌, ◌-◌, ◌<◌, ◌≤◌, Bool, true, false, List, [], ◌∷◌, ◌++◌, length, take, drop, refl, sym, ap, ◌∙◌, arith, append_assoc, length-append, length-take, length-drop, take_at, ◌↔◌, Result, Some, None, Ok, Err}
use Rattle.std.specs.List.{All}
use Rattle.std.proofs.lemmas.List.{append-nil, nil_from_length, take_all, take-append-le, take-append-drop, drop-take, drop-drop, flat_map_more, length_push, same_from_push}
use Rattle.std.proofs.lemmas.List.Elements.{All-push, All-take, All-head}
use Rattle.std.proofs.lemmas.Grind.{flat_map-append, common_steps}
use Rattle.std.proofs.Math.Logic.{∥∥₁_elim}
use Rattle.std.proofs.Math.Bool.{Bool-set}
use Rattle.cobs.specs.Piece.{output}
use Rattle.cobs.specs.Overwritten.{overwritten}
use Rattle.cobs.specs.Stream.{Outcome, Message, Broken, TooLong, outcome_of, stream_outcomes, unended, is_nonempty}
use Rattle.cobs.specs.Feed.{Phase, Idle, Within, Overlong, DecoderAfter, phase_after}
use Rattle.cobs.specs.FeedPiece.{outcome_at, TakesPiece}
use Rattle.cobs.specs.NextFrame.{Read, bytes_given, GaveBytes, all_given, EndsIn, Runs, CallsForMore, EachCalledFor, EndsFirst, HasDecoded, ReaderState, ReaderAfter, AtPieceEnd, AtStreamEnd, Reports, ReadsNext}
use Rattle.cobs.specs.Internal.KeptBytes.{EndsFirstIn, DecoderHasTaken, ReportsFirst}
use Rattle.cobs.specs.declared.framed.Next.{Next}
use Rattle.cobs.specs.declared.framed.Next.TheVariants as nexts
use Rattle.cobs.specs.declared.framed.ReadFault.{ReadFault}
use Rattle.cobs.specs.declared.framed.ReadFault.TheVariants as faults
use Rattle.cobs.specs.declared.dec.frame_decoder.PieceEnd.{PieceEnd}
use Rattle.cobs.proofs.format.FrameLemmas.{All-apart}
use Rattle.cobs.proofs.decoding.OutcomeLemmas.{outcome_says}
use Rattle.cobs.proofs.format.StreamLemmas.{outcomes_at, stream_outcomes-append, stream_outcomes-no_zero, stream_outcomes-push, unended-append, unended-no_zero, unended-zero}
use Rattle.cobs.proofs.streaming.SoFar.{left_nothing, no_outcomes}
use Rattle.cobs.proofs.streaming.LastPiece.{last_piece-zero}

-- THE FIRST PIECE THAT ENDS

-- if an output fits a buffer, and is written over its front, the buffer begins with this output
written-fits : (out buffer : List ℕ) (count : ℕ) → length out ≤ length buffer → count ≡ length out → (count ≤ length (overwritten buffer out)) × (take count (overwritten buffer out) ≡ out)
written-fits out buffer count fits is = grind (arith, take_all, length-append, take-append-le)

-- if the zero after this piece reports this outcome, and the output of the piece is written over the front of a buffer,
-- then the buffer is as `HasDecoded` states
HasDecoded-written : (outcome : Outcome) (piece buffer : List ℕ) → outcomes_at piece 0 (length buffer) ≡ outcome ∷ [] → HasDecoded outcome (overwritten buffer (output piece)) piece
HasDecoded-written outcome [] buffer e = absurd cc
HasDecoded-written (Message message) (byte ∷ bytes) buffer e = tt
HasDecoded-written (Broken count) (byte ∷ bytes) buffer e =
    -- the output of a broken piece fits the buffer, and `count` is its length
    let is : outcome_of (byte ∷ bytes) (length buffer) ≡ Broken count = cc in
    let (fits, broken, counted) = outcome_says (byte ∷ bytes) (length buffer) is in
    written-fits (output (byte ∷ bytes)) buffer count fits counted
HasDecoded-written TooLong (byte ∷ bytes) buffer e =
    let is : outcome_of (byte ∷ bytes) (length buffer) ≡ TooLong = cc in
    -- the output is longer than the buffer, so its first bytes fill the buffer
    let long : length buffer < length (output (byte ∷ bytes)) = outcome_says (byte ∷ bytes) (length buffer) is in
    grind (arith, common_steps, nil_from_length, length-drop, append-nil, length-take)

-- after a front p of a piece, `feed_piece` of these bytes reports the end of a piece, after `count` bytes
module _ {buffer buffer' : List ℕ} {phase phase' : Phase} {end : PieceEnd} {count : ℕ} (bytes : List ℕ) (t : TakesPiece buffer phase bytes (Some (end, count)) buffer' phase')
    (p : List ℕ) (h : DecoderAfter buffer phase p) where
  -- the first piece that ends in the bytes has the reported outcome, and the bytes after the first `count` bytes follow
  -- its zero
  abbrev pub EndsFirstIn-taken : EndsFirstIn p bytes (length buffer') (outcome_at end buffer') (drop count bytes)
  EndsFirstIn-taken = record {
    front = t.ends.front;
    -- the first `count` bytes are `front` and a zero (`taken`)
    cut = sym (take-append-drop count bytes) ∙ rw (t.ends.taken, append_assoc) refl;
    none_before = let none = t.ends.none_before p h.phased in grind arith;
    -- with the zero, the stream has this one outcome
    here = let said = t.takes.outcomes p h in grind arith;
  }

  -- the output of this piece is in the buffer
  pub HasDecoded-taken : HasDecoded (outcome_at end buffer') buffer' (unended (p ++ t.ends.front))
  HasDecoded-taken =
      let front = p ++ t.ends.front in
      let none = t.ends.none_before p h.phased in
      -- the stream up to the end of the piece: `front` has no outcome, so the last zero ends the first piece
      let cut : p ++ take count bytes ≡ front ++ 0 ∷ [] = grind (arith, append_assoc) in
      grind (arith, HasDecoded-written, last_piece-zero, no_outcomes, outcomes_at, stream_outcomes-push)

-- if no piece has ended in the stream t, the first piece that ends in the bytes after t is the first piece that ends in
-- `t ++ bytes`
abbrev pub EndsFirst-behind : (t : List ℕ) {bytes behind : List ℕ} {n : ℕ} {outcome : Outcome} → stream_outcomes t n ≡ [] → EndsFirstIn (unended t) bytes n outcome behind → EndsFirst (t ++ bytes) n outcome behind
EndsFirst-behind t {bytes} {behind} {n} {outcome} none w = record {
  front = t ++ w.front;
  cut = grind (arith, append_assoc);
  none_before = rw (stream_outcomes-append t w.front n, none) w.none_before;
  outcomes =
      -- the stream up to the zero that ends the piece, and the bytes after this zero
      let cut : t ++ bytes ≡ (t ++ (w.front ++ 0 ∷ [])) ++ behind = grind (arith, append_assoc) in
      grind (arith, stream_outcomes-append, append_assoc, unended-zero);
}

-- THE READER'S FLAG, WHICH SAYS WHETHER A PIECE HAS BEGUN

-- whether a piece has begun in this phase
not_idle : Phase → Bool
not_idle Idle = false
not_idle (Within full left count) = true
not_idle Overlong = true

-- in the phase after p, a piece has begun if and only if p isn't empty
nonempty_phase : (p : List ℕ) (n : ℕ) → is_nonempty p ≡ not_idle (phase_after p n)
unfolding phase_after not_idle
nonempty_phase p n = grind (arith, not_idle)

-- If the flag is right for some front that the decoder may have been fed, it is right for each such front q: the flag
-- depends only on the phase. The assumption says that some front p exists, without naming it.
pub HasTaken-any : (buffer : List ℕ) (phase : Phase) (flag : Bool) (q : List ℕ) → ∥ ((p : List ℕ) × DecoderHasTaken buffer phase flag p) ∥₁ → DecoderAfter buffer phase q → DecoderHasTaken buffer phase flag q
HasTaken-any buffer phase flag q some h = record {
  after = h;
  -- p may be used without a name, because two booleans can be equal in only one way (`Bool-set`)
  flag = ∥∥₁_elim some (Bool-set flag (is_nonempty q)) (λ w.
      w.1.flag ∙ nonempty_phase w.0 (length buffer) ∙ ap not_idle (grind arith) ∙ sym (nonempty_phase q (length buffer)));
}

-- ONE MORE READ

-- if some reads change the source from a to b, and one more read changes it from b to c, all these reads change it from
-- a to c
Runs-push : {S : Type 0} (step : S → Read → S → Type 0) (a : S) (reads : List Read) (b c : S) (read : Read) → Runs step a reads b → step b read c → Runs step a (reads ++ read ∷ []) c
Runs-push step a [] b c read r s = grind arith
Runs-push step a (first ∷ reads) b c read r s = (r.0, r.1, Runs-push step r.0 reads b c read r.2 s)

-- one more read appends its bytes to the stream
given-push : (front : List ℕ) (reads : List Read) (read : Read) → front ++ all_given (reads ++ read ∷ []) ≡ front ++ all_given reads ++ bytes_given read
given-push front reads read = grind (arith, flat_map_more)

-- the last of `reads ++ read` is `read`
last_read : (reads : List Read) (read last : Read) → EndsIn (reads ++ read ∷ []) last → read ≡ last
last_read reads read last e = grind (arith, same_from_push)

-- WHICH READS WERE CALLED FOR

-- these reads returned bytes, and no piece has ended in the front and these bytes
module _ (front : List ℕ) (n : ℕ) (reads : List Read) (gave : All GaveBytes reads) (none : stream_outcomes (front ++ all_given reads) n ≡ []) where
  -- after the first k of these reads, the call makes another read, if k is less than 65,536
  called_after : (k : ℕ) → k < 65536 → CallsForMore front n (take k reads)
  called_after k few =
      -- the bytes of the reads are those of the first k reads, and then those of the others
      let cut = flat_map-append bytes_given (take k reads) (drop k reads) in
      record {
        few = omega (arith, length-take k reads);
        gave = All-take GaveBytes k reads gave;
        -- no piece has ended in the bytes of all these reads, so none has in those of the first k reads
        none_ended = grind (arith, take-append-drop, append_assoc, left_nothing, stream_outcomes-append);
      }

  -- so each of these reads was called for, and so is one more read after them (`more` has at most one read)
  called_for : (more : List Read) → length more ≤ 1 → length (reads ++ more) ≤ 65536 → EachCalledFor front n (reads ++ more)
  called_for more one few earlier later read e =
      let long = ap length e ∙ length-append earlier (read ∷ later) in
      -- the reads before `read` are the first ones of `reads`
      let within : length earlier ≤ length reads = omega (arith, long, length-append reads more) in
      let same : take (length earlier) reads ≡ earlier
      = sym (grind (arith, take-append-le)) ∙ ap (take (length earlier)) e ∙ take_at earlier (read ∷ later) (length earlier) refl in
      grind (arith, called_after)

-- A CALL THAT GOES ON

-- The call has made `count` reads. Each of them returned bytes, and no piece has ended. `from` is the state of the
-- source before the call, and `to` is its state after these reads. `reader₀` is the state of the reader before the
-- call, and `reader` is its state after these reads. `unfinished` is the reader's flag, which says whether a piece is
-- unfinished.
pub record Going {S : Type 0} (step : S → Read → S → Type 0) (from to : S) (reader₀ reader : ReaderState) (unfinished : Bool) (count : ℕ) : Type 0 where
  pub reads : List Read
  pub runs : Runs step from reads to
  pub count_is : length reads ≡ count
  pub gave : All GaveBytes reads
  pub at_end : (p : List ℕ) → ReaderAfter reader₀ p → AtStreamEnd (p ++ reader₀.kept ++ all_given reads) reader
  pub flag : (p : List ℕ) → ReaderAfter reader₀ p → unfinished ≡ is_nonempty (unended (p ++ reader₀.kept ++ all_given reads))
  pub len : length reader.buffer ≡ length reader₀.buffer

-- before any read, `Going` holds if the reader is at the end of its kept bytes, and its flag is right there
pub Going-start : {S : Type 0} (step : S → Read → S → Type 0) (source : S) (reader₀ reader : ReaderState) (unfinished : Bool)
    → ((p : List ℕ) → ReaderAfter reader₀ p → AtStreamEnd (p ++ reader₀.kept) reader × (unfinished ≡ is_nonempty (unended (p ++ reader₀.kept))))
    → length reader.buffer ≡ length reader₀.buffer → Going step source source reader₀ reader unfinished 0
Going-start step source reader₀ reader unfinished h len = grind (arith, append-nil)

-- the call has made `count` reads, and then ends
module _ {S : Type 0} {step : S → Read → S → Type 0} {from to : S} {reader₀ reader : ReaderState} {unfinished : Bool} {count : ℕ} where
  -- no piece has ended in the bytes of these reads
  none_so_far : (g : Going step from to reader₀ reader unfinished count) → (p : List ℕ) → ReaderAfter reader₀ p
      → stream_outcomes (p ++ reader₀.kept ++ all_given g.reads) (length reader₀.buffer) ≡ []
  none_so_far g p b = grind arith

  -- One more read is the last of the call. If the result is `Err(Io)` if and only if this read failed, and the facts of
  -- `Reports` hold for the result, then `ReadsNext` holds.
  ReadsNext-read : {to' : S} {reader' : ReaderState} {result : Result Next ReadFault} (read : Read) → count < 65536
      → (g : Going step from to reader₀ reader unfinished count) → step to read to'
      → (result ≡ Err faults.Io) ↔ (read ≡ None)
      → ((p : List ℕ) → ReaderAfter reader₀ p
      → Reports result (g.reads ++ read ∷ []) (p ++ reader₀.kept ++ all_given g.reads ++ bytes_given read) reader')
      → ReadsNext step from to' reader₀ result reader'
  ReadsNext-read {to'} read few g s failed says = record {
    reads = g.reads ++ read ∷ [];
    runs = grind (arith, Runs-push);
    -- the last of all reads is this one
    failed = (λ e. (g.reads, rw (failed.0 e) refl), λ l. failed.1 (last_read g.reads read None l));
    -- the reads so far were called for, and so was this one
    called_for = λ p b. called_for _ _ g.reads g.gave (none_so_far g p b) (read ∷ [])
        (omega arith) (omega (arith, length_push g.reads read, g.count_is));
    result_says = grind (arith, given-push);
  }

  -- WHERE THE CALL ENDS, AND NO PIECE HAS ENDED

  -- if the reader keeps no byte, it is at the end of the stream so far, and its flag says whether a piece is unfinished
  -- there
  emptied : (kept : List ℕ) → kept ≡ [] → (g : Going step from to reader₀ reader unfinished count) → (p : List ℕ) → ReaderAfter reader₀ p
      → AtStreamEnd (p ++ reader₀.kept ++ all_given g.reads ++ []) (record reader { kept = kept })
      × (unfinished ≡ is_nonempty (unended (p ++ reader₀.kept ++ all_given g.reads ++ [])))
  emptied kept e g p b = grind (arith, append-nil)

  -- the last read failed, so the call returns `Err(Io)`
  pub ReadsNext-failed : {to' : S} (kept : List ℕ) → kept ≡ [] → count < 65536 → Going step from to reader₀ reader unfinished count → step to None to'
      → ReadsNext step from to' reader₀ (Err faults.Io) (record reader { kept = kept })
  ReadsNext-failed kept e few g s = ReadsNext-read None few g s (λ _. refl, λ _. refl) (λ p b. ((emptied kept e g p b).0, (g.reads, refl)))

  -- the last read returned no bytes, so the call returns `End`
  pub ReadsNext-end : {to' : S} (kept : List ℕ) → kept ≡ [] → count < 65536 → Going step from to reader₀ reader unfinished count → step to (Some []) to'
      → ReadsNext step from to' reader₀ (Ok (nexts.End unfinished)) (record reader { kept = kept })
  -- the result isn't `Err(Io)`, and the read didn't fail, so both directions have a false premise
  ReadsNext-end kept e few g s = ReadsNext-read (Some []) few g s (λ f. absurd cc, λ n. absurd cc) (λ p b.
      let w = emptied kept e g p b in
      (w.0, (g.reads, refl), w.1))

  -- 65,536 reads were made, and no piece has ended, so the call returns `Err(TooManyReads)`
  pub ReadsNext-too_many : count ≡ 65536 → Going step from to reader₀ reader unfinished count → ReadsNext step from to reader₀ (Err faults.TooManyReads) reader
  ReadsNext-too_many all g = record {
    reads = g.reads;
    runs = g.runs;
    -- the result isn't `Err(Io)`, and no read failed, because each of them returned bytes
    failed = (
      λ f. absurd cc,
      λ l. absurd (grind (arith, All-head, All-apart)),
    );
    -- all the reads were called for; no read follows them
    called_for = λ p b.
        rw append-nil at (called_for _ _ g.reads g.gave (none_so_far g p b) [] (omega arith) (grind (arith, append-nil)));
    result_says = grind arith;
  }

-- WHERE A PIECE ENDS

-- if no piece has ended in the stream t, and `next` reports the first piece that ends in the bytes after t, the facts
-- of `Reports` hold for `next` and the whole stream
Reports-first : (next : Next) (reads : List Read) (t bytes : List ℕ) (reader : ReaderState) → stream_outcomes t (length reader.buffer) ≡ []
    → ReportsFirst next (unended t) bytes reader.buffer reader.kept → ReaderAfter reader [] → Reports (Ok next) reads (t ++ bytes) reader
Reports-first next reads t bytes reader none w b =
    let first = EndsFirst-behind t none w.first in
    let ended : AtPieceEnd (t ++ bytes) w.outcome reader = record { first = first; decoded = rw (unended-append t w.first.front) w.decoded; idle = b } in
    grind arith

-- a piece ends in the kept bytes, so the call makes no read, and reports this piece
pub ReadsNext-kept : {S : Type 0} (step : S → Read → S → Type 0) (source : S) (reader reader' : ReaderState) (next : Next)
    → ((p : List ℕ) → ReaderAfter reader p → ReportsFirst next p reader.kept reader'.buffer reader'.kept) → ReaderAfter reader' []
    → ReadsNext step source source reader (Ok next) reader'
ReadsNext-kept step source reader reader' next h idle = record {
  reads = [];
  -- without a read, the source doesn't change
  runs = refl;
  -- the result isn't `Err(Io)`, and there is no last read
  failed = (λ f. absurd cc, λ l. absurd (omega (arith, ap length l.1, length_push l.0 None)));
  -- there is no read that would have to be called for
  called_for = λ p b earlier later read e. absurd (omega (arith, ap length e, length-append earlier (read ∷ later)));
  -- p has no zero, so its unended bytes are p, and no piece has ended in it
  result_says = λ p b.
      let w : ReportsFirst next (unended p) reader.kept reader'.buffer reader'.kept = rw (unended-no_zero p b.phased.piece) (h p b) in
      rw (append-nil (p ++ reader.kept)) (Reports-first next [] p reader.kept reader' (stream_outcomes-no_zero p _ b.phased.piece) w idle);
}

-- if `reader` is at the end of t, and `reader'` is at the end of the unended bytes of t followed by more bytes, then
-- `reader'` is at the end of t followed by these bytes
AtStreamEnd-more : (t bytes : List ℕ) (reader reader' : ReaderState) → length reader'.buffer ≡ length reader.buffer → AtStreamEnd t reader → AtStreamEnd (unended t ++ bytes) reader' → AtStreamEnd (t ++ bytes) reader'
AtStreamEnd-more t bytes reader reader' len before more = grind (arith, stream_outcomes-append, unended-append)

-- after `count` reads, one more read returns some bytes, and changes the source from `to` to `to'`
module _ {S : Type 0} {step : S → Read → S → Type 0} {from to to' : S} {reader₀ reader reader' : ReaderState} {unfinished : Bool} {count : ℕ} where
  -- a piece ends in these bytes, so the call reports this piece
  pub ReadsNext-piece : (bytes : List ℕ) (next : Next) → count < 65536 → Going step from to reader₀ reader unfinished count → step to (Some bytes) to' → length reader'.buffer ≡ length reader.buffer
      → ((q : List ℕ) → ReaderAfter reader q → ReportsFirst next q bytes reader'.buffer reader'.kept) → ReaderAfter reader' []
      → ReadsNext step from to' reader₀ (Ok next) reader'
  ReadsNext-piece bytes next few g s len h idle = ReadsNext-read (Some bytes) few g s (λ f. absurd cc, λ n. absurd cc) (λ p b.
      -- before this read the reader was at the end of the stream (`end`), so `Reports-first` applies
      let end = g.at_end p b in
      Reports-first next _ _ bytes reader' (grind arith) (h _ end.after) idle)

  -- no piece ends in these bytes, so the call continues
  pub Going-push : (bytes : List ℕ) (unfinished' : Bool) → bytes ≢ [] → Going step from to reader₀ reader unfinished count → step to (Some bytes) to' → length reader'.buffer ≡ length reader.buffer
      → ((q : List ℕ) → ReaderAfter reader q → AtStreamEnd (q ++ bytes) reader' × (unfinished' ≡ is_nonempty (unended (q ++ bytes))))
      → Going step from to' reader₀ reader' unfinished' (count + 1)
  Going-push bytes unfinished' some g s len h = record {
    reads = g.reads ++ Some bytes ∷ [];
    runs = grind (arith, Runs-push);
    count_is = grind (arith, length_push);
    gave = All-push GaveBytes g.reads (Some bytes) g.gave some;
    -- `t` is the stream before this read; after this read, the reader is at the end of t followed by the bytes of the
    -- read
    at_end = λ p b.
        let t = p ++ reader₀.kept ++ all_given g.reads in
        let end = g.at_end p b in
        rw (given-push (p ++ reader₀.kept) g.reads (Some bytes))
        (AtStreamEnd-more t bytes reader reader' len end (h _ end.after).0);
    -- the flag is right at the end of this longer stream
    flag = λ p b.
        let t = p ++ reader₀.kept ++ all_given g.reads in
        rw (given-push (p ++ reader₀.kept) g.reads (Some bytes), unended-append t bytes) (h _ (g.at_end p b).after).1;
    len = len ∙ g.len;
  }

-- THE FRONT OF A CHUNK, AND RANGES OF A CHUNK

-- the first n bytes of a chunk aren't empty if n isn't 0
pub front_nonempty : (xs : List ℕ) (n : ℕ) → n ≤ length xs → n ≢ 0 → take n xs ≢ []
front_nonempty xs n within some = grind arith

-- the first n bytes of a chunk, without their first `count` bytes
pub front_rest : (xs : List ℕ) (n count : ℕ) → count ≤ n → drop count (take n xs) ≡ take (n - count) (drop count xs)
front_rest xs n count h =
    let e : n ≡ count + (n - count) = omega arith in
    grind (arith, drop-take)

-- a range that ends at its start is empty
pub empty_range : (xs : List ℕ) (from to : ℕ) → from ≡ to → take (to - from) (drop from xs) ≡ []
empty_range xs from to e = grind arith

-- the range from index `from` to index `to`, without its first n bytes, is the range from `from + n` to `to`
pub left_of_range : (xs : List ℕ) (from to n : ℕ) → n + from ≤ to → drop n (take (to - from) (drop from xs)) ≡ take (to - (from + n)) (drop (from + n) xs)
left_of_range xs from to n h = grind (arith, front_rest, drop-drop)
