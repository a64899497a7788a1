-- A push reports the outcomes of the bytes that it consumed, which follow the outcomes of the earlier bytes (`cut` of
-- `law_9`). So the number of messages grows by the number of messages in the result of the push (`counted`): by 1 for a
-- report, and by 0 for an error or for `Ok(None)`.
-- `law_9`: A stream may be cut anywhere.
use Rattle.std.proofs.Common.{◌≡◌, ◌≢◌, ◌≤◌, ◌+◌, ◌∙◌, ℕ, List, [], ◌∷◌, ◌++◌, length, take, drop, refl, sym, ap, arith, append_assoc, length-append, length-drop, take_all}
use Rattle.std.specs.Prelude.{Option, Some, None, Result, Ok, Err}
use Rattle.std.proofs.lemmas.List.{take_rest}
use Rattle.std.proofs.Math.Seq.{take-add}
use Rattle.cobs.specs.Feed.{DecoderAfter, Phase}
use Rattle.cobs.specs.Fields.Decoders.{owned_buffer}
use Rattle.cobs.specs.Laws.{StreamLaw}
use Rattle.cobs.specs.Push.{PushesBytes, consumed, consumed_size, error_outcomes, last_result, pushed_outcomes}
use Rattle.cobs.specs.Stream.{Outcome, Message, Broken, TooLong, stream_outcomes, unended}
use Rattle.cobs.specs.declared.DecodeError.{DecodeError}
use Rattle.cobs.specs.declared.DecodeError.TheVariants.{EmptyFrame, InvalidFrame, TargetBufTooSmall}
use Rattle.cobs.specs.declared.DecodeReport.{DecodeReport}
use Rattle.cobs.specs.declared.PushError.{PushError}
use Rattle.cobs_vectors.specs.Relayed.{messages_of}
use Rattle.cobs_vectors.proofs.clients.count_messages.Goals as goal

-- the messages among the outcomes of two parts are those of the first part, and then those of the second
messages_of-append : (first more : List Outcome) → messages_of (first ++ more) ≡ messages_of first ++ messages_of more
messages_of-append [] more = refl
messages_of-append (Message message ∷ first) more = grind (arith, (messages_of-append first more))
messages_of-append (Broken count ∷ first) more = messages_of-append first more
messages_of-append (TooLong ∷ first) more = messages_of-append first more

-- an error isn't a message
no_message : (error : DecodeError) → messages_of (error_outcomes error) ≡ []
no_message EmptyFrame = refl
no_message (InvalidFrame count) = refl
no_message TargetBufTooSmall = refl

-- a push that returns an error reports no message
none_counted : (bytes buffer : List ℕ) (failure : PushError) → length (messages_of (pushed_outcomes bytes (Err failure) buffer)) ≡ 0
none_counted bytes buffer failure = grind (arith, no_message)

-- the last result of a push that returns a report isn't `Ok(None)`
is_some : (report : DecodeReport) → last_result (Ok (Some report)) ≢ Ok None
is_some report e = absurd cc

-- a push of the bytes from index `at` on, to a decoder that has taken p (the front of a piece that had been fed before
-- the call) and the bytes before `at`; the decoder's buffer has n bytes
module _ (law : StreamLaw) {buffer buffer' : List ℕ} {phase phase' : Phase} (bytes : List ℕ) (result : Result (Option DecodeReport) PushError) (at n : ℕ) (same : length buffer ≡ n)
    (t : PushesBytes buffer phase (drop at bytes) result buffer' phase') (p : List ℕ) (h : DecoderAfter buffer phase (unended (p ++ take at bytes))) where
  -- the bytes that are taken after the push: p, the bytes before `at`, and the bytes that the push consumed
  joined : p ++ take (at + consumed_size (drop at bytes) result) bytes ≡ (p ++ take at bytes) ++ consumed (drop at bytes) result
  joined = grind (arith, take-add, append_assoc)

  -- after the push, the decoder has taken these bytes
  after : DecoderAfter buffer' phase' (unended (p ++ take (at + consumed_size (drop at bytes) result) bytes))
  after = grind (arith, joined)

  -- the number of messages in these bytes is the number before the push, and the number of messages that the push
  -- reported
  counted : length (messages_of (stream_outcomes (p ++ take (at + consumed_size (drop at bytes) result) bytes) n))
      ≡ length (messages_of (stream_outcomes (p ++ take at bytes) n)) + length (messages_of (pushed_outcomes (drop at bytes) result buffer'))
  counted = grind (arith, joined, messages_of-append, length-append)

-- the bytes before an index and the bytes from this index on are all bytes
whole : (bytes : List ℕ) (at : ℕ) → at ≤ length bytes → take (at + length (drop at bytes)) bytes ≡ bytes
whole bytes at within = grind (arith, length-drop, take_all)

-- `Ok(None)`: all bytes are consumed, and no message ended in this push
pub returns-in-Ok-None-clause-counted : goal.returns-in-Ok-None-clause-counted
returns-in-Ok-None-clause-counted c p h =
    let inv = c.by_push.invariant in
    let at : ℕ = c.by_push.at in
    let bytes : List ℕ = c.args.bytes.now in
    -- the clause `pushes` of this push, for the bytes from index `at` on
    let t = rw (take_rest bytes at, c.in-Ok-None.field-0-is) at c.in-Ok-None.ensures.pushes in
    inv.counted p h ∙ sym (rw (whole bytes at inv.within) at (counted c.law_9.ensures bytes _ at _ inv.len t p (inv.after p h)) ∙ omega arith)

-- `Ok(None)`: the decoder has taken all bytes
pub returns-in-Ok-None-clause-after : goal.returns-in-Ok-None-clause-after
returns-in-Ok-None-clause-after c p h =
    let inv = c.by_push.invariant in
    let at : ℕ = c.by_push.at in
    let bytes : List ℕ = c.args.bytes.now in
    -- the clause `pushes` of this push, for the bytes from index `at` on
    let t = rw (take_rest bytes at, c.in-Ok-None.field-0-is) at c.in-Ok-None.ensures.pushes in
    rw (whole bytes at inv.within) at (after c.law_9.ensures bytes _ at _ inv.len t p (inv.after p h))

-- a report: one more message is counted
pub by_push-preserved-in-Ok-Some : goal.by_push-preserved-in-Ok-Some
by_push-preserved-in-Ok-Some c =
    let inv = c.by_push.invariant in
    let at : ℕ = c.by_push.at in
    let bytes : List ℕ = c.args.bytes.now in
    -- the clause `pushes` of this push, for the bytes from index `at` on
    let t = rw (take_rest bytes at, c.in-Ok-Some.field-0-is) at c.in-Ok-Some.ensures.pushes in
    -- the number of consumed bytes, which isn't 0 (`some`)
    let size = c.parsed_size-at.ensures.size in
    let some = t.some (is_some c.in-Ok-Some.report) in
    let l = length-drop at bytes in
    record {
      within = omega (arith, t.within, size);
      few = omega (arith, inv.few, some, size);
      len = t.len ∙ inv.len;
      after = λ p h. rw size (after c.law_9.ensures bytes _ at _ inv.len t p (inv.after p h));
      counted = λ p h. rw size (ap (λ (k : ℕ). k + 1) (inv.counted p h) ∙ sym (counted c.law_9.ensures bytes _ at _ inv.len t p (inv.after p h)));
    }

-- an error: no message is counted
pub by_push-preserved : goal.by_push-preserved
by_push-preserved c =
    let inv = c.by_push.invariant in
    let at : ℕ = c.by_push.at in
    let bytes : List ℕ = c.args.bytes.now in
    -- the clause `pushes` of this push, for the bytes from index `at` on
    let t = rw (take_rest bytes at) at c.in-Err.ensures.pushes in
    let l = length-drop at bytes in
    record {
      within = omega (arith, t.within);
      few = omega (arith, inv.few);
      len = t.len ∙ inv.len;
      after = λ p h. after c.law_9.ensures bytes _ at _ inv.len t p (inv.after p h);
      counted = λ p h. inv.counted p h ∙ sym (counted c.law_9.ensures bytes _ at _ inv.len t p (inv.after p h) ∙ omega (arith, none_counted (drop at bytes) (owned_buffer c.push.new.self) c.in-Err.rejected));
    }
