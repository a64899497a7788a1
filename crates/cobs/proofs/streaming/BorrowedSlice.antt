-- The contract of `dest_mut`, whose body is `&mut *self.dest` for a field that is a `&'a mut [u8]`: when the loan of
-- the result ends, the slice of the `CobsDecoder` has the bytes that the caller wrote. `CobsDecoder::dest_mut` and
-- `WriteBuffer::dest_mut` both have this body (`lending`), and `lends` is their whole proof. By the rules of std for a
-- loan that is handed on: from the decoder to its field (`hands`), and from the field to the slice.
-- This is a proof in separation logic. The token of a lifetime (`flft`) says that the lifetime hasn't ended. A borrow
-- (`fbor`) is the right to use a place in memory until a lifetime ends; to read or write this place, the proof opens
-- the borrow, and closes it later. While a value is lent, there are two facts that agree on its present value: the half
-- of the reference (`fobs`) and the half of the borrow. `follows` says how the last value of a whole, here
-- the decoder, follows from the last value of its part.
use mathlib.Core.Path.{refl, ap}
use mathlib.Core.List.{List, [], ◌∷◌}
use base.Fml.{Lft, GName, fat, ftrue, flft, fobs, fbor}
use mir.Syntax.{Callee, Fn, named, erased, mut, w8, w64, Ty, ty_int, ty_ref, place, deref, field, local, value_local, seq, assign, rv_opd, copy, addr_of, aggregate, return}
use types.Logic.{Logic}
use denote.Builtin.{u8, RefMutOf}
use denote.Ref.{NamedLft, MutRef, mut_vals, mut_Tells, at_last}
use denote.Slice.{MutSlice, slice_ty, slice_val, mut_slice_vals}
use denote.Struct.At.{get_at}
use borrow.Follows.Field.{HandsTo, hands_on}
use borrow.Struct.Lend.{put_record, kept_record, record_fill, record_apart}
use Rattle.cobs.specs.declared.dec.buffered.CobsDecoder.{CobsDecoder}
use Rattle.cobs.specs.contracts.dec.buffered.CobsDecoder as S
use Rattle.cobs.proofs.dec.buffered.CobsDecoder.TheLaws.{the_loose}
use seplogic.Ra.Ura.{Ura}
use Prim.Native.Nat.{ℕ, ◌+◌, ◌*◌, ◌^◌}
use base.Fraction.{full_share}
use mir.Val.{Val}
use types.Kit.{‵, ◌⊛◌, some, later, ◌$◌, ◌∵◌, !, qed, done, move, keep, drop, use1, use2, use3, split, split3, join, fsplit3, fjoin, fjoin3, feq_l, feq_i, flt_l, flt_i, pick, await, rewrite, suffices, frame}
use types.SemTy.{Body}
use types.Mut.{open_ref, close_ref}
use types.Part.{agg, whole, sub, look_in}
use types.Run.{enter, of_opd, addr, load, stop, fld, hop, no_more, and_then, returns}
use types.ByLocal.{alloc_all, pass_all, free_all, look_at, get, through, sets}
use denote.Array.{Array}
use denote.Exit.{no}
use denote.Follow.{follows, follows_then}
use denote.Memory.{mem, part_at}
use denote.RattleType.{RattleType}
use denote.Signature.{plain, named_lft}
use denote.Steps.{nothing, only}
use denote.Through.{renamed, lends_inner_slice}
use denote.Triple.Walked.{says, Stays, stay_dropped, walk_of, ends_at, Goes-spent_ref}
use borrow.Table.OneValue.{part_out_at, part_in_at}
use Rattle.std.proofs.raw_atomic.Walks.{proved}
use Rattle.cobs.specs.contracts.dec.buffered.CobsDecoder.dest_mut as f
use prog.Model.{Model}
use prog.Wp.{Closed}
use contract.Running.{Running, MachineTables, tables}
use denote.Triple.Clauses.{closing}
use denote.Triple.Spec.{Meets}

-- the lifetime 'a of `CobsDecoder<'a>`, which is κ; it is lifetime 1 of the signature
abbrev at : Lft → NamedLft
at κ = record { mir = named 1; lft = κ }

-- a loan of the decoder x is handed on to its field `dest`; at the end of the loan the decoder has the field's new
-- value
module _ {M : Type 1} {𝓤 : Ura M} (𝓛 : Logic 𝓤) (κ' : Lft) where
  hands : (x : CobsDecoder) → HandsTo 𝓛 (S.the_row (at κ')) (MutSlice (named 1) κ' u8) (λ o. o + 0) x x.dest (λ w. record x { dest = w })
  hands x =
      let D = S.the_type (at κ') in
      let L = the_loose (at κ') in
      let T = S.struct (at []) in
      -- the four terms from `put_record` on say how the value of a struct changes if its field 0 is replaced
      hands_on 𝓛 (S.the_row (at κ')) (MutSlice (named 1) κ' u8) 0
      (λ x. get_at (S.the_type (at [])).parts 0 ((S.struct (at [])).as_values x))
      (put_record D L 0 0 T.as_values T.Ghost T.make (λ v. tt) (λ x. refl) (λ v g. refl) (λ x. x))
      (kept_record D L 0 0 T.as_values T.Ghost T.make (λ v. tt) (λ x. refl) (λ v g. refl) (λ x. x))
      (record_fill D L 0 0 T.as_values T.Ghost T.make (λ v. tt) (λ x. refl) (λ v g. refl) (λ x. x) refl (λ f. refl))
      (record_apart D L 0 0 T.as_values T.Ghost T.make (λ v. tt) (λ x. refl) (λ v g. refl) (λ x. x) 𝓛 refl refl)
      x

-- the first type of a list, or a byte if the list is empty; it selects the type of a decoder below
abbrev head_of : List Ty → Ty
head_of [] = ty_int w8
head_of (τ ∷ τs) = τ

-- the body of both methods, as the compiler sees it
abbrev lending : Fn
lending =
    -- D is the type of a decoder
    let D = head_of (S.the_row (record { mir = erased; lft = [] })).mir in
    record {
      -- lifetime 0 is that of the loan; lifetime 1 is 'a, and outlives it
      lifetimes = 2;
      outlives = (1, 0) ∷ [];
      ty_params = [];
      givens = 0;
      params = 1;
      -- the result, the parameter `self`, the length of the slice, and its address
      locals = local (slice_ty (ty_ref (named 0) mut (ty_int w8))) value_local ∷ local (ty_ref (named 0) mut (S.the_row (at [])).written.ty) value_local
          ∷ local (ty_int w64) value_local ∷ local (ty_ref erased mut (ty_int w8)) value_local ∷ [];
      -- the length and the address of the slice are read, and the result is the pair of both
      body = seq (assign (place 2 []) (rv_opd (copy (place 1 (deref D ∷ field 0 ∷ field 1 ∷ [])))))
          (seq (assign (place 3 []) (addr_of (place 1 (deref D ∷ field 0 ∷ field 0 ∷ deref (ty_int w8) ∷ []))))
          (seq (assign (place 0 []) (aggregate (copy (place 3 []) ∷ copy (place 2 []) ∷ [])))
          return));
    }

-- at the return, nothing is left of the parameter `self`, because its loan is handed on to the result
abbrev stayed : Stays f.ended.signature.params f.ended.kept
stayed = (stay_dropped (RefMutOf (0 ∷ []) tt (plain (λ κs. S.the_row (named_lft 2 1 tt κs))) (λ _. tt)) no, tt)

-- The contract is proved for every choice of these four. 𝓤 is the algebra of resources: each fact of the logic is about
-- an element of it. 𝓛 is the logic: the memory, the lifetimes and the borrows, with their laws. 𝓜 is a model of the
-- memory: for each possible memory σ of the machine, it has the fact that the memory is σ. 𝓡 says what a call of a
-- function does when the machine runs it.
module _ {M : Type 1} (𝓤 : Ura M) (𝓛 : Logic 𝓤) (𝓜 : Model 𝓤 𝓛.H) (𝓡 : Running 𝓤 𝓛.H 𝓜) where
  -- the tables that say what each call and each loop in a body does on this machine
  abbrev 𝓣 : MachineTables 𝓤 𝓛.H 𝓜
  𝓣 = tables 𝓤 𝓛.H 𝓜 𝓡 𝓡.env

  -- the main lemma: if the body of the function k is `lending`, k meets the contract of `dest_mut`
  pub lends : (k : Callee) → Closed 𝓤 𝓛.H 𝓣.C 𝓣.Λ k lending → Meets 𝓛 f.ended.signature (𝓣.C k) (closing 𝓛 f.ended (f.clauses 𝓛 𝓜.mem 𝓡.returns))
  lends k closed =
      let c = f.clauses 𝓛 𝓜.mem 𝓡.returns in let W = walk_of 𝓛 f.ended stayed c in
      proved 𝓛 f.ended stayed c 𝓜 𝓡 (Goes-spent_ref 𝓛 2 (0 ∷ []) tt (plain (λ κs. S.the_row (named_lft 2 1 tt κs))), tt)
      k lending closed
      (λ κs. (mut_vals, tt)) (λ κs. (mut_Tells (named 0) κs.0 (S.the_row (at κs.1.0)), tt)) (λ κs qs bounds a _ are.
      -- the two lifetimes, and the share q of the first one that the call has
      let κ : Lft = κs.0 in let κ' : Lft = κs.1.0 in let q = qs.0 in
      -- the place of the decoder in memory (block b, offset o), the decoder, and its slice
      let b : ℕ = a.0.ref_ptr.0 in let o : ℕ = a.0.ref_ptr.1 in let d : CobsDecoder = a.0.now in let y = d.dest in
      -- R is the type of the decoder, and F the type of its field
      let R : RattleType = S.the_row (at κ') in
      let F : RattleType = MutSlice (named 1) κ' u8 in
      let τ : Ty = ty_ref erased mut (ty_int w8) in
      let g : W.Ghost = ((κs, qs, bounds, a, (mut_vals a.0, tt)), tt) in
      -- the facts at the start: the tokens of the two lifetimes, and the parameter `self`
      qed 𝓛 (((‵ (flft κ q) ⊛ ‵ (flft κ' qs.1.0) ⊛ ‵ ftrue) ⊛ ‵ ((MutRef (named 0) κ R).own_val a.0 (mut_vals a.0)) ⊛ ‵ ftrue) ∷ ‵ ftrue ∷ []) ∵
      split ! $ split ! $ move ! (2 ∷ []) $ split ! $ keep ! (0 ∷ 2 ∷ 3 ∷ []) $
      -- enter the body: allocate the locals, and pass the parameter
      enter ! _ _ _ _ _ $ alloc_all ! (λ l. pass_all ! refl ((tt, tt), tt) $
      fsplit3 ! $ drop ! $
      -- the borrow of the decoder becomes a borrow of its field (`hands`)
      use3 𝓛 (later (some (λ (γ₁ : GName). ‵ (fobs γ₁ (F.coded.code y)) ⊛ ‵ (fbor κ (Body (mem F) b (o + 0) γ₁)) ⊛ ‵ (flft κ q) ⊛ ‵ (follows R F _ γ₁ (λ w. record d { dest = w })))))
      (hands 𝓛 κ' d κ q _ b o) $ await ! tt $ pick ! (λ γ₁. split3 ! $ move ! (2 ∷ []) $ split ! $ move ! (2 ∷ 3 ∷ 0 ∷ []) $
      -- open this borrow, to read the address and the length of the slice from memory
      open_ref ! tt (mem F) {b = b} {o = o + 0} $ use1 𝓛 (some (λ (v : Val). ‵ (fat full_share (slice_ty τ) b (o + 0) v) ⊛ ‵ (F.own_val y (v ∷ [])))) (part_out_at 𝓛 F refl full_share y b (o + 0) (slice_ty τ) refl) $
      pick ! (λ v. split ! $ move ! (1 ∷ []) $ fsplit3 ! $ fsplit3 ! $ feq_l ! (λ ev. flt_l ! (λ fits. flt_l ! (λ small.
      rewrite ! 2 (λ (cv : Val). ‵ (fat full_share (slice_ty τ) b (o + 0) cv)) (ap only ev) refl $
      -- The proof now has eight facts, with the numbers 0 to 7. 0: the reference's half of the value of the slice.
      -- 1: the borrow of the bytes of the slice. 2: the contents of the field in memory, that is, the address and the
      -- length of the slice (`look_in ! 2` reads this fact). 3: the borrow of the field, which is open. 4 and 5: the
      -- reference's half and the borrow's half of the value of the field. 6: `follows`, from the field to the decoder.
      -- 7: the token of 'a. The three assignments of the body follow: the length, the address, and the pair of both.
      sets ! (of_opd ! (load ! (through ! refl (fld ! refl (fld ! refl (stop !)))) (look_in ! 2 (sub ! 1 refl (whole !))))) refl (tt, record { fits = fits }) $
      sets ! (addr ! (through ! refl (fld ! refl (fld ! refl (hop ! (look_in ! 2 (sub ! 0 refl (whole !))) (stop !)))))) refl (tt, tt) $
      sets ! (agg ! (and_then ! (get ! refl) (and_then ! (get ! refl) (no_more !)))) refl (tt, (tt, (record { fits = fits }, tt))) $
      -- put the address and the length of the slice back into the field (fact 2), and close the field's borrow
      flt_i ! (_ * (mem u8).size) (2 ^ 63) small $ flt_i ! _ (2 ^ 64) fits $ feq_i ! (List Val) (mut_slice_vals y) (mut_slice_vals y) refl $ fjoin3 ! $ fjoin3 ! $ move ! (1 ∷ 0 ∷ []) $
      use2 𝓛 (‵ (part_at F full_share y b (o + 0))) (part_in_at 𝓛 F refl full_share y b (o + 0) (slice_ty τ) refl (slice_val y.ref_ptr _)) $
      close_ref ! tt (mem F) y {b = b} {o = o + 0} $
      -- lend the slice to which the field refers, as the result
      use3 𝓛 (later (some (λ (γ' : GName). ‵ ((MutSlice (named 0) κ u8).own_val (renamed y γ') (mut_slice_vals y)) ⊛ ‵ (flft κ q) ⊛ ‵ (follows F (Array u8 0) γ₁ γ' (at_last y)))))
      (lends_inner_slice 𝓛 u8 (named 0) (named 1) κ κ' (record { ref_ptr = (b, o + 0); ghost_name = γ₁; now = y }) bounds.0 (fits, small) q) $ await ! tt $ pick ! (λ γ'. split3 ! $
      -- the decoder's value at the end of the loan follows from the bytes that the slice then has
      move ! (3 ∷ 2 ∷ []) $ use2 𝓛 (‵ (follows R (Array u8 0) _ γ' (λ w. record d { dest = at_last y w }))) (follows_then 𝓛 R F (Array u8 0) (λ w. record d { dest = w }) (at_last y) _ γ₁ γ') $
      -- return the pair, and free the locals
      returns ! (look_at ! 0 refl) $ free_all ! refl $ move ! (1 ∷ 2 ∷ 0 ∷ []) $
      -- the facts at the return are those that the contract states
      suffices ! _ (ends_at 𝓛 f.ended stayed c g (slice_val y.ref_ptr _) (renamed y γ') (tt, tt) (tt, tt)) $
      nothing ! $ nothing ! $ fjoin ! $ join ! $ move ! (1 ∷ 3 ∷ []) $ join ! $ join ! $ frame ! $ says ! refl $ done !))))))))
