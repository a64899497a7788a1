-- After each byte the vector has the open output of the bytes so far, by the clause `carried` of `push`
-- (`by_byte-preserved`). If a result of `push` names an index, this index is within the vector (`within`). At the end,
-- `finalize` names the index of the last code.
use Rattle.std.proofs.Common.{◌≡◌, ◌<◌, ◌≤◌, ◌==◌, ℕ, Bool, true, false, List, [], ◌∷◌, ◌++◌, if◌then◌else◌, length, take, get_or, set, sym, ap, subst, arith, take_all, append_assoc}
use Rattle.std.proofs.lemmas.List.{take_more}
use Rattle.cobs.specs.declared.PushResult.{PushResult}
use Rattle.cobs.specs.declared.PushResult.TheVariants.{AddSingle, ModifyFromStartAndSkip, ModifyFromStartAndPushAndSkip}
use Rattle.cobs.specs.OpenBlock.{OpenBlock, IsOpenOutput, push_result, applied}
use Rattle.cobs_vectors.proofs.worked_callers.encode_by_state.Goals.{in-AddSingle+in_ok-push-in-AddSingle, in-ModifyFromStartAndSkip+in_ok-push-in-ModifyFromStartAndSkip, in-ModifyFromStartAndPushAndSkip+in_ok-push-in-ModifyFromStartAndPushAndSkip+in_ok-push-in-ModifyFromStartAndPushAndSkip-2}
use Rattle.cobs_vectors.proofs.worked_callers.encode_by_state.Goals as goal

-- the index that a result names, or 0 if it names none
abbrev index_of : PushResult → ℕ
index_of (AddSingle b) = 0
index_of (ModifyFromStartAndSkip (i, c)) = i
index_of (ModifyFromStartAndPushAndSkip (i, c, b)) = i

-- this index isn't after the index of the open block
index_of-push_result : (state : OpenBlock) (byte : ℕ) → index_of (push_result state byte) ≤ state.index
index_of-push_result state byte = go (byte == 0) (state.code == 254)
  where
    -- the three results of `push_result`, for whether the byte is a zero, and whether a nonzero byte would fill the
    -- open block
    go : (zero full : Bool) → index_of (if zero then ModifyFromStartAndSkip (state.index, state.code) else (if full then ModifyFromStartAndPushAndSkip (state.index, 255, byte) else AddSingle byte)) ≤ state.index
    go true full = omega arith
    go false true = omega arith
    go false false = omega arith

-- if the open block begins within the output g, the index that a result names is within g
within : (g : List ℕ) (state : OpenBlock) (byte : ℕ) (returned : PushResult) → state.index < length g → returned ≡ push_result state byte → index_of returned < length g
within g state byte returned end is = grind (arith, index_of-push_result)

-- before the first byte, the vector has the output for no byte
pub by_byte-init : goal.by_byte-init
by_byte-init c = subst (λ (g : List ℕ). IsOpenOutput g c.default-state.result []) (sym c.in_ok-output.ensures.items) (c.default-state.ensures.output 0)

-- the open block begins within the vector, so its index and code don't overflow, as `push` requires
pub push-requires : goal.push-requires
push-requires c = let len = (c.law_13.ensures.output c.by_byte.output.items (take c.by_byte.byte-index c.args.source.now) c.by_byte.state c.by_byte.invariant).0 in omega arith

-- the index for a closed block is within the vector
pub index_mut-requires : goal.index_mut-requires
index_mut-requires c =
    let h = within c.by_byte.output.items c.by_byte.state (get_or c.args.source.now c.by_byte.byte-index 0) c.push.result (c.law_13.ensures.output c.by_byte.output.items (take c.by_byte.byte-index c.args.source.now) c.by_byte.state c.by_byte.invariant).1 c.push.ensures.answer in
    let i = ap index_of c.in-ModifyFromStartAndSkip.is in
    omega arith

-- the index for a full block is within the vector
pub index_mut-requires-in-ModifyFromStartAndPushAndSkip : goal.index_mut-requires-in-ModifyFromStartAndPushAndSkip
index_mut-requires-in-ModifyFromStartAndPushAndSkip c =
    let h = within c.by_byte.output.items c.by_byte.state (get_or c.args.source.now c.by_byte.byte-index 0) c.push.result (c.law_13.ensures.output c.by_byte.output.items (take c.by_byte.byte-index c.args.source.now) c.by_byte.state c.by_byte.invariant).1 c.push.ensures.answer in
    let i = ap index_of c.in-ModifyFromStartAndPushAndSkip.is in
    omega arith

-- one more byte: the caller has made the change that the result describes
pub by_byte-preserved : goal.by_byte-preserved
by_byte-preserved c =
    let source : List ℕ = c.args.source.now in
    let i : ℕ = c.by_byte.byte-index in
    let g : List ℕ = c.by_byte.output.items in
    -- the output after the change is the open output for one byte more
    let carried = c.push.ensures.carried (take i source) g 0 c.by_byte.invariant in
    let more = take_more source i 0 (omega arith) in
    -- the change for the result is the change for any equal result
    let carry : (returned : PushResult) → c.push.result ≡ returned → applied g c.push.result 0 ≡ applied g returned 0 = λ returned is. ap (λ (r : PushResult). applied g r 0) is in
    -- the vector is the output after this change, for each of the three results
    let same : c.match-push.output.items ≡ applied g c.push.result 0 = elim c.match-push.branch [
      | in-AddSingle+in_ok-push-in-AddSingle w ↦
          let is = carry _ w.in-AddSingle.is in
          let items = w.in_ok-push-in-AddSingle.ensures.items in
          let out = w.output-is in
          cc
      | in-ModifyFromStartAndSkip+in_ok-push-in-ModifyFromStartAndSkip w ↦
          let is = carry _ w.in-ModifyFromStartAndSkip.is in
          let items = w.in_ok-push-in-ModifyFromStartAndSkip.ensures.items in
          let out = w.output-is in
          cc
      | in-ModifyFromStartAndPushAndSkip+in_ok-push-in-ModifyFromStartAndPushAndSkip+in_ok-push-in-ModifyFromStartAndPushAndSkip-2 w ↦
          let is = carry _ w.in-ModifyFromStartAndPushAndSkip.is in
          let last = w.in_ok-push-in-ModifyFromStartAndPushAndSkip.ensures.items in
          let placeholder = w.in_ok-push-in-ModifyFromStartAndPushAndSkip-2.ensures.items in
          let out = w.output-is in
          let join = append_assoc (set g w.in-ModifyFromStartAndPushAndSkip.index w.in-ModifyFromStartAndPushAndSkip.code) (w.in-ModifyFromStartAndPushAndSkip.last ∷ []) (0 ∷ []) in
          cc
    ] in
    subst (λ (l : List ℕ). IsOpenOutput c.match-push.output.items c.push.new.self l) (sym more) (subst (λ (l : List ℕ). IsOpenOutput l c.push.new.self (take i source ++ get_or source i 0 ∷ [])) (sym same) carried)

-- at the end, the index of the last code is within the vector
pub index_mut-requires-2 : goal.index_mut-requires-2
index_mut-requires-2 c =
    let end = (c.law_13.ensures.output c.by_byte.output.items (take c.by_byte.byte-index c.args.source.now) c.by_byte.state c.by_byte.invariant).1 in
    let i = c.finalize-index.ensures.index in
    omega arith

-- the vector is the output of all bytes, with the last code written
pub returns : goal.returns
returns c =
    let i = c.finalize-index.result.0 in
    let code = c.finalize-index.result.1 in
    let source = c.args.source.now in
    let done = c.finalize-index.ensures.completed _ _ c.by_byte.invariant in
    let all : take c.by_byte.byte-index source ≡ source = take_all c.by_byte.byte-index source (omega arith) in
    (i, code, rw all at done)
