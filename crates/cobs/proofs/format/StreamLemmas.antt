-- The ended pieces, the outcomes and the unended bytes of a stream that is cut in two (`ended_pieces-append`,
-- `stream_outcomes-append`, `unended-append`), or that is longer by one byte (`stream_outcomes-push`, `unended-push`).
-- All of them follow from the stretches of the stream (`stretches-append`), by std's lemmas on `slice_split`. `law_9`
-- and `law_10` state these facts.
use Rattle.std.proofs.Common.{◌≡◌, ◌≢◌, ℕ, zero, suc, ◌+◌, ◌-◌, ◌<◌, ◌≤◌, true, cond, eqb, List, [], ◌∷◌, ◌++◌, length, take, refl, sym, ap, ◌∙◌, arith, append_assoc, length-append, not, get_or, inl, inr}
use Rattle.std.proofs.lemmas.List.{map-append, take_all, take_more, take-append-le}
use Rattle.std.proofs.Math.Seq.{take-append-add}
use Rattle.std.proofs.lemmas.List.Elements.{All-push, All-nil, All-take, filter-append}
use Rattle.std.proofs.lemmas.List.Splits.{slice_split_at, slice_split_none, length-slice_split}
use Rattle.std.specs.List.{onto_first}
use Rattle.cobs.specs.Grammar.{HasNoZero, last_of}
use Rattle.cobs.specs.Stream.{stretches, is_nonempty, but_last, ended_pieces, unended, Outcome, outcome_of, stream_outcomes}
use Rattle.cobs.specs.Feed.{fed}
use Rattle.cobs.specs.Laws.{IsAtSentinel}
use Rattle.cobs.proofs.format.FrameLemmas.{last_of-append}

-- A FRONT OF A PIECE AND ONE MORE BYTE

-- a byte that is no zero joins the front
pub fed-nonzero : (p : List ℕ) (b : ℕ) → b ≢ 0 → fed p b ≡ p ++ b ∷ []
fed-nonzero p b h = grind arith

-- STRETCHES OF A STREAM THAT IS CUT IN TWO

-- a stream has a stretch
pub length-stretches : (t : List ℕ) → 0 < length (stretches t)
length-stretches t = grind (arith, length-slice_split)

-- the stretches of a stream that is cut into t and u: the last stretch of t continues in u
pub stretches-append : (t u : List ℕ) → stretches (t ++ u) ≡ but_last (stretches t) ++ stretches (last_of (stretches t) ++ u)
unfolding but_last
stretches-append [] u = refl
stretches-append (zero ∷ t) u = grind (arith, stretches-append t u, length-stretches t)
stretches-append (suc b ∷ t) u = grind (arith, stretches-append t u)

-- all lists of xs ++ ys except the last one: the lists of xs, and then all lists of ys except the last one
but_last-append : (xs ys : List (List ℕ)) → 0 < length ys → but_last (xs ++ ys) ≡ xs ++ but_last ys
unfolding but_last
but_last-append [] ys h = refl
but_last-append (x ∷ xs) ys h = grind (arith, but_last-append xs ys h, length-append xs ys)

-- the ended pieces of a stream that is cut into t and u: those of t, then those of u after the unended bytes of t
pub ended_pieces-append : (t u : List ℕ) → ended_pieces (t ++ u) ≡ ended_pieces t ++ ended_pieces (unended t ++ u)
unfolding ended_pieces unended
ended_pieces-append t u = grind (arith, stretches-append, but_last-append, length-stretches, filter-append)

-- the unended bytes of a stream that is cut into t and u are those of u after the unended bytes of t
pub unended-append : (t u : List ℕ) → unended (t ++ u) ≡ unended (unended t ++ u)
unfolding unended
unended-append t u = grind (arith, stretches-append, last_of-append, length-stretches)

-- the outcomes of a stream that is cut into t and u: those of t, then those of u after the unended bytes of t
pub stream_outcomes-append : (t u : List ℕ) (n : ℕ) → stream_outcomes (t ++ u) n ≡ stream_outcomes t n ++ stream_outcomes (unended t ++ u) n
unfolding stream_outcomes
stream_outcomes-append t u n = grind (arith, ended_pieces-append, map-append)

-- A PIECE AT THE FRONT OF A STREAM

-- the zero after a piece ends its stretch
pub stretches-piece : (p u : List ℕ) → HasNoZero p → stretches (p ++ 0 ∷ u) ≡ p ∷ stretches u
stretches-piece p u h = grind (arith, slice_split_at)

-- a list without a zero is one stretch
pub stretches-no_zero : (p : List ℕ) → HasNoZero p → stretches p ≡ p ∷ []
stretches-no_zero p h = grind (arith, slice_split_none)

-- in a list without a zero no piece has ended
pub ended_pieces-no_zero : (p : List ℕ) → HasNoZero p → ended_pieces p ≡ []
unfolding ended_pieces but_last
ended_pieces-no_zero p h = grind (arith, stretches-no_zero)

-- all bytes of a list without a zero are unended
pub unended-no_zero : (p : List ℕ) → HasNoZero p → unended p ≡ p
unfolding unended
unended-no_zero p h = ap last_of (stretches-no_zero p h)

-- a list without a zero has no outcome
pub stream_outcomes-no_zero : (p : List ℕ) (n : ℕ) → HasNoZero p → stream_outcomes p n ≡ []
unfolding stream_outcomes
stream_outcomes-no_zero p n h = grind (arith, ended_pieces-no_zero)

-- the outcomes that a byte b adds after the front p of a piece, in a buffer of n bytes: the outcome of p if b is a zero
-- and p isn't empty, otherwise none
abbrev pub outcomes_at : List ℕ → ℕ → ℕ → List Outcome
outcomes_at [] b n = []
outcomes_at (c ∷ p) b n = cond (eqb b 0) (outcome_of (c ∷ p) n ∷ []) []

-- a stream that consists of a piece and a zero has one ended piece, which is this piece
pub ended_pieces-piece : (p : List ℕ) → p ≢ [] → HasNoZero p → ended_pieces (p ++ 0 ∷ []) ≡ p ∷ []
unfolding ended_pieces but_last
ended_pieces-piece p some h = grind (arith, stretches-piece)

-- a stream that consists of the front p of a piece and a zero has the outcome of p, or no outcome if p is empty
pub stream_outcomes-piece : (p : List ℕ) (n : ℕ) → HasNoZero p → stream_outcomes (p ++ 0 ∷ []) n ≡ outcomes_at p 0 n
unfolding stream_outcomes ended_pieces but_last
stream_outcomes-piece p n h = grind (arith, stretches-piece)

-- a nonzero byte adds no outcome
pub outcomes_at-nonzero : (p : List ℕ) (b n : ℕ) → b ≢ 0 → outcomes_at p b n ≡ []
outcomes_at-nonzero p b n h = grind arith

-- the outcomes of a stream that consists of the front p of a piece and one more byte b
pub stream_outcomes-push_piece : (p : List ℕ) (b n : ℕ) → HasNoZero p → stream_outcomes (p ++ b ∷ []) n ≡ outcomes_at p b n
stream_outcomes-push_piece p zero n h = stream_outcomes-piece p n h
stream_outcomes-push_piece p (suc b) n h =
    grind (arith, stream_outcomes-no_zero, All-push (λ x. x ≢ 0) p (suc b) h (λ e. omega arith))

-- the unended bytes of a stream that consists of the front p of a piece and one more byte b
pub unended-push_piece : (p : List ℕ) (b : ℕ) → HasNoZero p → unended (p ++ b ∷ []) ≡ fed p b
unfolding unended
unended-push_piece p zero h = grind (arith, stretches-piece)
unended-push_piece p (suc b) h =
    grind (arith, unended-no_zero, All-push (λ x. x ≢ 0) p (suc b) h (λ e. omega arith))

-- WHAT IS UNENDED HAS NO ZERO

-- if the last stretch has no zero, it still has none after a nonzero byte is put before the first stretch
last_of-onto_first : (b : ℕ) (ss : List (List ℕ)) → b ≢ 0 → 0 < length ss → HasNoZero (last_of ss) → HasNoZero (last_of (onto_first b ss))
last_of-onto_first b ss h e p = grind arith

-- no unended byte is a zero
pub unended_no_zero : (t : List ℕ) → HasNoZero (unended t)
unfolding unended
unended_no_zero [] = All-nil _
unended_no_zero (zero ∷ t) = grind (arith, unended_no_zero t)
unended_no_zero (suc b ∷ t) = grind (arith, last_of-onto_first, unended_no_zero t)

-- ONE MORE BYTE OF A STREAM

-- one more byte b adds the outcome of the piece that it ends, if it ends one
pub stream_outcomes-push : (t : List ℕ) (b n : ℕ) → stream_outcomes (t ++ b ∷ []) n ≡ stream_outcomes t n ++ outcomes_at (unended t) b n
stream_outcomes-push t b n = grind (arith, stream_outcomes-append, stream_outcomes-push_piece, unended_no_zero)

-- the unended bytes after one more byte b
pub unended-push : (t : List ℕ) (b : ℕ) → unended (t ++ b ∷ []) ≡ fed (unended t) b
unended-push t b = grind (arith, unended-append, unended-push_piece, unended_no_zero)

-- after a zero no byte is unended
pub unended-zero : (t : List ℕ) → unended (t ++ 0 ∷ []) ≡ []
unended-zero t = unended-push t 0

-- a list with one more byte isn't empty
nonempty-push : (p : List ℕ) (b : ℕ) → is_nonempty (p ++ b ∷ []) ≡ true
nonempty-push [] b = refl
nonempty-push (c ∷ p) b = refl

-- after one more byte b, some bytes are unended if and only if b isn't a zero
pub nonempty-unended_push : (t : List ℕ) (b : ℕ) → not (eqb b 0) ≡ is_nonempty (unended (t ++ b ∷ []))
nonempty-unended_push t b = grind (arith, unended-push, nonempty-push)

-- after p and some bytes, bytes are unended if and only if the last of these bytes isn't a zero
pub nonempty-unended_last : (p bytes : List ℕ) → 0 < length bytes → not (eqb (get_or bytes (length bytes - 1) 0) 0) ≡ is_nonempty (unended (p ++ bytes))
nonempty-unended_last p bytes h =
    -- all bytes but the last one, and the last one
    let same : bytes ≡ take (length bytes - 1) bytes ++ get_or bytes (length bytes - 1) 0 ∷ []
    = sym (grind (arith, take_all)) ∙ take_more bytes _ 0 (omega arith) in
    -- `nonempty-unended_push` states this for the two parts, which together are p and all bytes
    nonempty-unended_push (p ++ take (length bytes - 1) bytes) _
    ∙ ap (λ x. is_nonempty (unended x)) (grind (arith, append_assoc))

-- DAMAGE BETWEEN TWO SENTINELS

-- a stream that is empty or ends in a sentinel has no unended bytes
unended-at_sentinel : (t : List ℕ) → IsAtSentinel t → unended t ≡ []
unended-at_sentinel t (inl none) = ap unended none ∙ unended-no_zero [] (All-nil _)
unended-at_sentinel t (inr (front, ends)) = ap unended ends ∙ unended-zero front

-- The stream a is empty or ends in a sentinel, and a sentinel follows the bytes d. Then the outcomes of the whole
-- stream are those of a, those of d and the sentinel after d, and those of the bytes z after this sentinel.
pub stream_outcomes-apart : (a d z : List ℕ) (n : ℕ) → IsAtSentinel a → stream_outcomes (a ++ d ++ 0 ∷ z) n ≡ stream_outcomes a n ++ stream_outcomes (d ++ 0 ∷ []) n ++ stream_outcomes z n
stream_outcomes-apart a d z n h =
    grind (arith, append_assoc, unended-at_sentinel, unended-zero, stream_outcomes-append, stream_outcomes-append (a ++ d ++ 0 ∷ []) z n)

-- one piece between two sentinels has one outcome
pub stream_outcomes-one : (d : List ℕ) (n : ℕ) → d ≢ [] → HasNoZero d → stream_outcomes (d ++ 0 ∷ []) n ≡ outcome_of d n ∷ []
stream_outcomes-one d n h e = grind (arith, stream_outcomes-piece)

-- a zero alone has no outcome
pub stream_outcomes-nothing : (n : ℕ) → stream_outcomes (0 ∷ []) n ≡ []
stream_outcomes-nothing n = stream_outcomes-piece [] n (All-nil _)

-- A STREAM THAT BEGINS WITH A PIECE AND ITS ZERO

-- a stream that begins with a piece f and a zero has the outcome of f, then the outcomes of the rest u
pub stream_outcomes-front : (f u : List ℕ) (n : ℕ) → f ≢ [] → HasNoZero f → stream_outcomes (f ++ 0 ∷ u) n ≡ outcome_of f n ∷ stream_outcomes u n
stream_outcomes-front f u n some h =
    cc (append_assoc f (0 ∷ []) u, stream_outcomes-append (f ++ 0 ∷ []) u n, unended-zero f, stream_outcomes-one f n some h)

-- f is a piece, and the lemmas are about the first k bytes of the stream that consists of f, a zero, and u
module _ (f u : List ℕ) (n k : ℕ) (some : f ≢ []) (h : HasNoZero f) where
  -- if the zero isn't among the first k bytes, no piece has ended in them
  outcomes-before : k ≤ length f → stream_outcomes (take k (f ++ 0 ∷ u)) n ≡ []
  outcomes-before within = rw (take-append-le k f (0 ∷ u) within) (stream_outcomes-no_zero _ n (All-take (λ b. b ≢ 0) k f h))

  -- if the zero is among the first k bytes, their first outcome is that of f
  pub outcomes-behind : length f < k → (rest : List Outcome) × (stream_outcomes (take k (f ++ 0 ∷ u)) n ≡ outcome_of f n ∷ rest)
  outcomes-behind past =
      let split : k ≡ length f + suc (k - length f - 1) = omega arith in
      -- the first k bytes: f, the zero, and a front of u
      let cut : take k (f ++ 0 ∷ u) ≡ f ++ 0 ∷ take (k - length f - 1) u
      = ap (λ k. take k (f ++ 0 ∷ u)) split ∙ take-append-add f (0 ∷ u) _ in
      (_, ap (λ x. stream_outcomes x n) cut ∙ stream_outcomes-front f _ n some h)

  -- if the first k bytes have no outcome, the zero isn't among them
  pub outcomes-none : stream_outcomes (take k (f ++ 0 ∷ u)) n ≡ [] → k ≤ length f
  outcomes-none e = grind (arith, outcomes-behind)

  -- if the first k bytes have a first outcome x, the zero is among them, and x is the outcome of f
  pub outcomes-first : (x : Outcome) (rest : List Outcome) → stream_outcomes (take k (f ++ 0 ∷ u)) n ≡ x ∷ rest
      → (length f < k) × (x ≡ outcome_of f n)
  outcomes-first x rest e = grind (arith, outcomes-behind, outcomes-before)
