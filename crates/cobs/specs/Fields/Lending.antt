-- The definitions for a buffer that a decoder lends to its caller with `dest_mut`. They have a file of their own,
-- because only `dest_mut` and `write_dest` need them. They are in specs/, not in proofs/, because clauses cite them.
use Rattle.std.specs.Prelude.{◌≡◌, length, ℕ, List, []}
use Rattle.std.specs.List.{length_refill}
use Rattle.std.proofs.Common.{refl, sym, ◌∙◌}
use Rattle.std.specs.Borrow.{Lends, MutBor, Fml, RattleType, u8, Array}
use Rattle.std.specs.Vec.{with_items}
use denote.Param.{value_of}
use mir.Syntax.{named}
use Rattle.arrayvec.specs.ArrayVec.{with_items as refilled}
use Rattle.cobs.specs.declared.dec.buffered.CobsDecoder.{CobsDecoder}
use Rattle.cobs.specs.declared.dec.buffered.CobsDecoderOwned.{CobsDecoderOwned}
use Rattle.cobs.specs.declared.dec.heapless.CobsDecoderHeapless.{CobsDecoderHeapless}
use Rattle.cobs.specs.contracts.dec.buffered.CobsDecoder.{the_row as borrowed_row}
use Rattle.cobs.specs.contracts.dec.buffered.CobsDecoderOwned.{the_row as owned_row}
use Rattle.cobs.specs.contracts.dec.heapless.CobsDecoderHeapless.{the_row as heapless_row}

-- the decoder with these bytes in its slice
abbrev pub with_borrowed_buffer : CobsDecoder → List ℕ → CobsDecoder
with_borrowed_buffer decoder bytes = record decoder { dest = record decoder.dest { now = bytes } }

-- the decoder with these bytes in its vector
abbrev pub with_owned_buffer : CobsDecoderOwned → List ℕ → CobsDecoderOwned
with_owned_buffer decoder bytes = record decoder { dest = with_items decoder.dest bytes }

module _ {N : ℕ} where
  -- if the bytes of the vector are replaced, the vector still has N bytes
  pub filled_again : (decoder : CobsDecoderHeapless N) (bytes : List ℕ) → length (refilled decoder.dest bytes).items ≡ N
  filled_again decoder bytes = sym (length_refill (length decoder.dest.items) decoder.dest.items bytes refl) ∙ decoder.filled

  -- the decoder with these bytes in its vector
  abbrev pub with_heapless_buffer : CobsDecoderHeapless N → List ℕ → CobsDecoderHeapless N
  with_heapless_buffer decoder bytes = record decoder { dest = refilled decoder.dest bytes; filled = filled_again decoder bytes }

-- the lender lends its buffer: when the loan ends, the buffer has the bytes that the caller left in it, and the rest of
-- the lender is unchanged. R is the *row* of the lender's type: the description of this type with which the prover
-- works (`borrowed_row`, `owned_row`, `heapless_row`).
abbrev pub LendsBytes : (R : RattleType) → MutBor R.Denot → MutBor (List ℕ) → (R.Denot → List ℕ → R.Denot) → Fml
LendsBytes R lender bytes with_bytes = Lends R (Array u8 0) lender bytes (with_bytes lender.now)

-- `LendsBytes` for a `CobsDecoder`; `named 1` is the lifetime 'a of `CobsDecoder<'a>`
abbrev pub LendsSlice : MutBor CobsDecoder → MutBor (List ℕ) → Fml
LendsSlice decoder bytes = LendsBytes (borrowed_row (record { mir = named 1; lft = [] })) decoder bytes with_borrowed_buffer

-- `LendsBytes` for a `CobsDecoderOwned`
abbrev pub LendsOwned : MutBor CobsDecoderOwned → MutBor (List ℕ) → Fml
LendsOwned decoder bytes = LendsBytes owned_row decoder bytes with_owned_buffer

-- `LendsBytes` for a `CobsDecoderHeapless`; N stands for the type parameter `N`, and `value_of N` is its number
abbrev pub LendsHeapless : (N : RattleType) → MutBor (CobsDecoderHeapless (value_of N)) → MutBor (List ℕ) → Fml
LendsHeapless N decoder bytes = LendsBytes (heapless_row N) decoder bytes with_heapless_buffer
