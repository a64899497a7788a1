-- The vector has as many bytes as the source, so it is never too short. The bytes that `decode_with_sentinel` wrote,
-- cut to the message's length, are the message (`decoded_head-message`), and an error of that call is the frame's error
-- (`decoded_head-rejected`). `reads` and `only` follow by `decoded_head_reads`.
use Rattle.std.proofs.Common.{◌≡◌, ◌≢◌, ◌<◌, ℕ, length, sym, ap, ◌∙◌, arith, bit_xor, Err, rules, take_at}
use Rattle.std.specs.Vec.{vec_len}
use Rattle.std.proofs.lemmas.List.{length-map}
use Rattle.std.proofs.lemmas.Bool.{eqb-false}
use Rattle.cobs.specs.Decode.{decoded_head}
use Rattle.cobs.specs.Sentinel.{xor_each}
use Rattle.cobs.specs.declared.error.DecodeError.{DecodeError}
use Rattle.cobs.specs.declared.error.DecodeError.TheVariants.{TargetBufTooSmall}
use Rattle.cobs.specs.declared.error.DecodeVecError.TheVariants.{Decode}
use Rattle.cobs.proofs.decoding.HeadlineLemmas.{xored_below}
use Rattle.cobs.proofs.decoding.ReadsLemmas.{frame_piece}
use Rattle.cobs.proofs.decoding.VectorHeadline.{decoded_head_reads}
use Rattle.cobs.proofs.decoding.VectorSteps.{kept-ok, decoded_head-rejected, decoded_head-message}
use Rattle.cobs.proofs.dec.forms.decode_vec_with_sentinel.Goals as goal

-- the vector, cut to the message's length, is the message of the bytes before the first sentinel
pub returns-clause-message : goal.returns-clause-message
returns-clause-message c = grind (arith, length-map, bit_xor, take_at, decoded_head-message, eqb-false)

-- if the XORed source is a frame of m, its message is m
pub returns-clause-reads : goal.returns-clause-reads
returns-clause-reads c found m r =
    -- the vector is the message of the XORed source (`message`), and so is m (`same`)
    let message = returns-clause-message c in
    let same = (decoded_head_reads _ (xored_below _ _ c.ranges.sentinel.fits c.type_inv.source) m (frame_piece r)).1 r in
    cc

-- if the vector's message is m, and the XORed source is a piece, then the XORed source is a frame of m
pub returns-clause-only : goal.returns-clause-only
returns-clause-only c piece m same = grind (arith, decoded_head_reads, xored_below, returns-clause-message)

-- `decode_with_sentinel` returned an error
module _ (c : goal.After-drop-message) where
  -- it is the error that is returned
  failed : (error : DecodeError) × (c.decode_with_sentinel.result ≡ Err error) × (c.from_residual-in_err-len.result ≡ Err (Decode error))
  failed = search rules

  -- the vector is as long as the source (`made`), and so as long as the XORed source
  made : length c.deref_mut.result.now ≡ length (xor_each c.args.sentinel c.args.source.now)
  made =
      c.deref_mut.ensures.len ∙ kept-ok c.vec.result c.map_err.result _ (λ v. vec_len v ≡ length c.args.source.now) _
      c.vec.ensures.len c.map_err.ensures.cases c.in_ok-message.was
      ∙ sym (length-map c.args.source.now (λ (b : ℕ). bit_xor b c.args.sentinel))

  -- the source isn't empty
  some : 0 < length c.args.source.now
  some = omega (arith, eqb-false (length c.args.source.now) 0 (sym c.is_empty.ensures ∙ c.if-is_empty.false))

  -- it is the error of the XORed source, and isn't `TargetBufTooSmall`
  no : (decoded_head (xor_each c.args.sentinel c.args.source.now) ≡ Err failed.0) × (failed.0 ≢ TargetBufTooSmall)
  no =
      let changed = length-map c.args.source.now (λ (b : ℕ). bit_xor b c.args.sentinel) in
      decoded_head-rejected (xor_each c.args.sentinel c.args.source.now) _ made failed.0 (omega (arith, some, changed))
      (sym failed.1 ∙ c.decode_with_sentinel.ensures.answer)

-- so the clauses hold for this error
pub returns-in_err-len : goal.returns-in_err-len
returns-in_err-len c =
    let rejected = (no c).0 in
    rw (failed c).2 (record {
      -- the clause `message` says nothing about an error
      message = tt;
      refused = rejected;
      -- the source isn't empty, so the premise of this field is false
      empty = λ none. absurd (omega (arith, some c, ap length none));
      -- the error isn't `TargetBufTooSmall`
      room = λ same. (no c).1 (cc);
      -- the XORed source isn't a frame, because a frame has no error
      reads = λ found m r.
          absurd (let same = (decoded_head_reads _ (xored_below _ _ c.ranges.sentinel.fits c.type_inv.source) m (frame_piece r)).1 r in cc);
      -- the premise is that the result is a message, but it is an error
      only = λ piece m e. absurd e;
    })
