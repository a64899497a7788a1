-- The vector has as many bytes as the source, so it is never too short. The bytes that `decode` wrote, cut to the
-- message's length, are the message (`decoded-message`), and an error of `decode` is the frame's error
-- (`decoded-rejected`). `reads` and `only` follow by `decoded_reads`.
use Rattle.std.proofs.Common.{◌≡◌, ◌≢◌, ◌<◌, length, sym, ap, ◌∙◌, arith, Err, rules, take_at}
use Rattle.std.specs.Vec.{vec_len}
use Rattle.std.proofs.lemmas.Bool.{eqb-false}
use Rattle.cobs.specs.Decode.{decoded}
use Rattle.cobs.specs.declared.error.DecodeError.{DecodeError}
use Rattle.cobs.specs.declared.error.DecodeError.TheVariants.{TargetBufTooSmall}
use Rattle.cobs.specs.declared.error.DecodeVecError.TheVariants.{Decode}
use Rattle.cobs.proofs.decoding.HeadlineLemmas.{bytes_below}
use Rattle.cobs.proofs.decoding.ReadsLemmas.{frame_piece}
use Rattle.cobs.proofs.decoding.VectorHeadline.{decoded_reads}
use Rattle.cobs.proofs.decoding.VectorSteps.{kept-ok, decoded-rejected, decoded-message}
use Rattle.cobs.proofs.dec.forms.decode_vec.Goals as goal

-- the vector, cut to the message's length, is the message of the source
pub returns-clause-message : goal.returns-clause-message
returns-clause-message c = grind (arith, take_at, decoded-message, eqb-false)

-- if the source is a frame of m, its message is m
pub returns-clause-reads : goal.returns-clause-reads
returns-clause-reads c found m r =
    -- the vector is the message of the source (`message`), and m is the message of the source too (`same`)
    let message = returns-clause-message c in
    let same = (decoded_reads c.args.source.now (bytes_below _ c.type_inv.source) m (frame_piece r)).1 r in
    cc

-- if the message is m, and the source may be a frame, it is a frame of m
pub returns-clause-only : goal.returns-clause-only
returns-clause-only c piece m same = grind (arith, decoded_reads, bytes_below, returns-clause-message)

-- `decode` returned an error
module _ (c : goal.After-drop-message) where
  -- it is the error that is returned
  failed : (error : DecodeError) × (c.decode.result ≡ Err error) × (c.from_residual-in_err-report.result ≡ Err (Decode error))
  failed = search rules

  -- the vector is as long as the source
  made : length c.deref_mut.result.now ≡ length c.args.source.now
  made = c.deref_mut.ensures.len ∙ kept-ok c.vec.result c.map_err.result _ (λ v. vec_len v ≡ length c.args.source.now) _
      c.vec.ensures.len c.map_err.ensures.cases c.in_ok-message.was

  -- the source isn't empty
  some : 0 < length c.args.source.now
  some = omega (arith, eqb-false (length c.args.source.now) 0 (sym c.is_empty.ensures ∙ c.if-is_empty.false))

  -- it is the error of the source, and isn't `TargetBufTooSmall`
  no : (decoded c.args.source.now ≡ Err failed.0) × (failed.0 ≢ TargetBufTooSmall)
  no = decoded-rejected c.args.source.now (length c.deref_mut.result.now) made failed.0 some (sym failed.1 ∙ c.decode.ensures.answer)

-- so the clauses hold for this error
pub returns-in_err-report : goal.returns-in_err-report
returns-in_err-report c =
    let rejected = (no c).0 in
    rw (failed c).2 (record {
      -- the clause `message` says nothing about an error
      message = tt;
      refused = rejected;
      -- the source isn't empty, so the premise of this field is false
      empty = λ none. absurd (omega (arith, some c, ap length none));
      -- the error isn't `TargetBufTooSmall`
      room = λ same. (no c).1 (cc);
      -- the source isn't a frame, because a frame has no error
      reads = λ found m r. absurd (let same = (decoded_reads c.args.source.now (bytes_below _ c.type_inv.source) m (frame_piece r)).1 r in cc);
      -- the premise is that the result is a message, but it is an error
      only = λ piece m e. absurd e;
    })
