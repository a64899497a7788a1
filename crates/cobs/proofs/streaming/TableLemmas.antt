-- The table of `DecoderState` has the right state and the right data for each byte of a piece: the state is
-- `state_after` of the bytes so far, and the data of all results so far are the output of these bytes
-- (`StateAfter-step`, `StateAfter-end`). This is proved with one case for each state, by `PieceLemmas`, which say what
-- one more byte changes in a piece. The machine, that is, the decoder that specs/Step.antt defines, follows the table
-- too (`FeedsByTable-step`).
use Rattle.std.proofs.Common.{◌≡◌, ◌≢◌, ℕ, zero, suc, ◌-◌, ◌<◌, ◌+◌, ◌⊎◌, ◌↔◌, Bool, cond, eqb, Some, List, [], ◌∷◌, ◌++◌, length, All, Ok, Err, refl, arith}
use Rattle.std.proofs.lemmas.Bool.{eqb-true, ne_eqb, cases_Bool}
use Rattle.std.proofs.lemmas.List.{append-nil}
use Rattle.std.proofs.lemmas.List.Elements.{All-push}
use Rattle.std.proofs.lemmas.Grind.{common_steps}
use Rattle.cobs.specs.Grammar.{HasNoZero, Reads}
use Rattle.cobs.specs.Piece.{parts, parts_after, last_part, is_whole, output}
use Rattle.cobs.specs.Table.{opened_by, table_result, table_state, data_of, state_after, StateAfter, counted, state_in, written_in, FeedsByTable}
use Rattle.cobs.specs.declared.dec.state.DecoderState.{DecoderState}
use Rattle.cobs.specs.declared.dec.state.DecoderState.TheVariants.{Idle, Grab, GrabChain}
use Rattle.cobs.specs.Feed.{Phase, Within}
use Rattle.cobs.specs.Feed as phases
use Rattle.cobs.specs.Step.{next_result, next_phase}
use Rattle.cobs.specs.declared.dec.state.DecodeResult.TheVariants.{DataComplete}
use Rattle.cobs.specs.declared.error.DecodeError.TheVariants.{InvalidFrame, TargetBufTooSmall}
use Rattle.cobs.proofs.decoding.OutcomeLemmas.{reads_iff}
use Rattle.cobs.proofs.decoding.PieceLemmas.{output-one, last_part-one, output-push_more, output-push_next, last_part-push_next, missing-push_more, is_full-push_more, EndsIn}

-- the state in a block of which `left` bytes are missing; `full` says whether the code of the block is 255
abbrev pub inside : Bool → ℕ → DecoderState
inside full left = cond full (GrabChain left) (Grab left)

-- the state after a nonempty front of a piece, given its last part: `EndsIn` says whether this part is full, and how
-- many of its bytes are missing
state_after-is : (c : ℕ) (q : List ℕ) {full : Bool} {left : ℕ} → EndsIn (c ∷ q) full left → state_after (c ∷ q) ≡ inside full left
state_after-is c q is = grind arith

-- if the last part of the front is only its code b, the state is the one that b opens
opened_after : (c : ℕ) (q : List ℕ) (b : ℕ) → last_part (c ∷ q) ≡ b ∷ [] → opened_by b ≡ state_after (c ∷ q)
opened_after c q b is = grind (arith, eqb-true)

-- a nonzero byte b after the nonempty front `c ∷ q` of a piece
module _ (c : ℕ) (q : List ℕ) (b : ℕ) (some : b ≢ 0) where
  -- the table's next state is the state after the front with b
  state_step : (full : Bool) (left : ℕ) → EndsIn (c ∷ q) full left → table_state (inside full left) b ≡ state_after (c ∷ q ++ b ∷ [])
  state_step full (suc left) is = grind (arith, cases_Bool, ne_eqb, state_after-is, is_full-push_more (c ∷ q) b, missing-push_more (c ∷ q) b)
  state_step full zero is = grind (arith, cases_Bool, ne_eqb, opened_after, last_part-push_next (c ∷ q) b)

  -- the output of the front, followed by the table's data for b, is the output of the front with b
  data_step : (full : Bool) (left : ℕ) → EndsIn (c ∷ q) full left → output (c ∷ q) ++ data_of (table_result (inside full left) b) ≡ output (c ∷ q ++ b ∷ [])
  data_step full (suc left) is = grind (arith, cases_Bool, ne_eqb, output-push_more (c ∷ q) b)
  data_step full zero is = grind (arith, ne_eqb, output-push_next)

-- `state_step` for any front, even the empty one
next_state : (p : List ℕ) (b : ℕ) → b ≢ 0 → table_state (state_after p) b ≡ state_after (p ++ b ∷ [])
next_state p b h = grind (arith, opened_after, last_part-one, state_step)

-- the output of no bytes is empty
pub output-nil : output [] ≡ []
unfolding output parts parts_after
output-nil = refl

-- `data_step` for any front, even the empty one
next_data : (p : List ℕ) (b : ℕ) → b ≢ 0 → output p ++ data_of (table_result (state_after p) b) ≡ output (p ++ b ∷ [])
next_data p b h = grind (arith, append-nil, output-nil, output-one, data_step)

-- a nonzero byte keeps `StateAfter`: the table's next state belongs to the front with this byte, and its data to the
-- output
pub StateAfter-step : (state : DecoderState) (p so_far : List ℕ) (b : ℕ) → b < 256 → StateAfter state p so_far → b ≢ 0
    → StateAfter (table_state state b) (p ++ b ∷ []) (so_far ++ data_of (table_result state b))
StateAfter-step state p so_far b below s some = grind (arith, common_steps, All-push, next_state, next_data)

-- before the first byte, the state is `Idle`, and there is no data
pub StateAfter-start : StateAfter Idle [] []
StateAfter-start = grind (arith, output-nil)

-- the result for the zero after a nonempty front: `DataComplete` if the front is a whole piece, otherwise an error
at_end : (c : ℕ) (q : List ℕ) → table_result (state_after (c ∷ q)) 0 ≡ cond (is_whole (c ∷ q)) (Ok DataComplete) (Err (InvalidFrame 0))
unfolding is_whole
at_end c q = grind arith

-- for the zero after p, the table returns `DataComplete`, and the output of p is m, if and only if p is a frame of m
complete : (p m : List ℕ) → HasNoZero p → All (λ b. b < 256) p → ((table_result (state_after p) 0 ≡ Ok DataComplete) × (output p ≡ m)) ↔ Reads p m
complete [] m nonzero below = let both = reads_iff [] m below in grind arith
complete (c ∷ q) m nonzero below = let both = reads_iff (c ∷ q) m below in grind (arith, at_end, cases_Bool)

-- `complete` for the state after p and the data so far: the zero after p completes the message m if and only if p is a
-- frame of m
pub StateAfter-end : (state : DecoderState) (p so_far m : List ℕ) → StateAfter state p so_far → ((table_result state 0 ≡ Ok DataComplete) × (so_far ≡ m)) ↔ Reads p m
StateAfter-end state p so_far m s = let h = complete p m s.piece s.bytes in grind arith

-- THE PHASES OF A STREAMING DECODER

-- if a byte b comes where a code may come, the machine's next phase corresponds to the table's next state; a zero ends
-- the piece
coded : (n b count : ℕ) → state_in (cond (eqb b 0) phases.Idle (Within (eqb b 255) (b - 1) count)) ≡ Some (cond (eqb b 0) Idle (opened_by b))
coded n b count = grind arith

-- the field `returned` of `FeedsByTable`: the machine's result is that of the table, or it is `TargetBufTooSmall`, and
-- the buffer has no room for the written bytes together with the byte of data that the table's result may have
returned_by_table : (n : ℕ) (phase : Phase) (b : ℕ) (state : DecoderState) → state_in phase ≡ Some state
    → let stated = table_result state b in
    (next_result n phase b ≡ counted (written_in phase) stated) ⊎ ((next_result n phase b ≡ Err TargetBufTooSmall) × (n < written_in phase + length (data_of stated)))
returned_by_table n phase b state h = grind arith

-- the main lemma on phases: a step of the machine follows the table
pub FeedsByTable-step : (n : ℕ) (phase : Phase) (b : ℕ) → FeedsByTable n phase b (next_result n phase b) (next_phase n phase b)
FeedsByTable-step n phase b = grind (arith, eqb-true, returned_by_table)
