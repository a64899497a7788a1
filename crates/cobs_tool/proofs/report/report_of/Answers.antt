-- The text so far and the report of the bytes that are left are together the report of the stream. Each result of the
-- reader adds its line (`message_reported`, `broken_reported`, `too_long_reported`) and leaves fewer bytes. The end of
-- the stream adds the last line (`stream_end_reported`).
use Rattle.std.proofs.Common.{ℕ, ◌++◌, length, string_bytes, take, ap, sym, ◌∙◌, arith, append-nil, length-take-le}
use Rattle.std.proofs.lemmas.List.{length-replicate}
use Rattle.cobs.specs.Fields.Decoders.{owned_buffer}
use Rattle.cobs.specs.Stream.{Message}
use Rattle.cobs_lines.specs.Lines.{outcome_line}
use Rattle.cobs_tool.proofs.ReportLemmas.{report-start, few_at_start, still_few, text_all, unfinished_text, message_reported, broken_reported, too_long_reported, stream_end_reported, no_fault, text_more}
use Rattle.cobs_tool.proofs.report.report_of.Goals.{then-unfinished+in_ok-push_str-in-Ok-End, else-unfinished}
use Rattle.cobs_tool.proofs.report.report_of.Goals as goal

-- before the first piece, the text is empty, and the whole stream is left
pub by_piece-init : goal.by_piece-init
by_piece-init c =
    let made = c.in_ok-decoder.ensures in
    record {
      stated = report-start _ _ _ _ c.new-text.ensures.bytes c.new-frames.ensures.kept c.new-source.ensures.bytes;
      few = few_at_start _ _ _ _ c.new-frames.ensures.kept c.new-source.ensures.bytes c.requires;
      -- the new decoder is idle, and its buffer has room for the longest message
      idle = rw c.new-frames.ensures.decoder made.idle;
      buffer = ap (λ d. length (owned_buffer d)) c.new-frames.ensures.decoder ∙ ap length made.buffer ∙ length-replicate {A = ℕ} 65536 0;
    }

-- A MESSAGE: it is within the buffer, so slicing it out is in bounds
pub slice_bounds-message-end : goal.slice_bounds-message-end
slice_bounds-message-end c =
    -- the contract of `next_frame` for this message, and what it says about the report (`stated`)
    let next = rw c.in-Ok-Message.field-0-is at c.in-Ok-Message.ensures.next in
    let stated = message_reported c.law_9.ensures _ _ _ _ _ next c.by_piece.invariant.idle (c.in-Ok-Message.ensures.len ∙ c.by_piece.invariant.buffer) in
    let within = stated.1 in
    -- the slice `dest` is the buffer of the reader's decoder
    let buffer = ap length (c.dest.ensures.value ∙ ap owned_buffer c.decoder.ensures.value) in
    sym (length-take-le c.in-Ok-Message.len c.dest.result.now (omega arith))

-- after a message, fewer bytes are left
pub by_piece-smaller-in-Continue-branch-2 : goal.by_piece-smaller-in-Continue-branch-2
by_piece-smaller-in-Continue-branch-2 c =
    -- the contract of `next_frame` for this message, and what it says about the report (`stated`)
    let next = rw c.in-Ok-Message.field-0-is at c.in-Ok-Message.ensures.next in
    let stated = message_reported c.law_9.ensures _ _ _ _ _ next c.by_piece.invariant.idle (c.in-Ok-Message.ensures.len ∙ c.by_piece.invariant.buffer) in
    stated.0.fewer

-- the line of a message is added to the text
pub by_piece-preserved-in-Continue-branch-2 : goal.by_piece-preserved-in-Continue-branch-2
by_piece-preserved-in-Continue-branch-2 c =
    -- the contract of `next_frame` for this message, and what it says about the report (`stated`)
    let next = rw c.in-Ok-Message.field-0-is at c.in-Ok-Message.ensures.next in
    let len = c.in-Ok-Message.ensures.len ∙ c.by_piece.invariant.buffer in
    let stated = message_reported c.law_9.ensures _ _ _ _ _ next c.by_piece.invariant.idle len in
    let pushed = c.in_ok-push_message-in-Ok-Message.ensures in
    -- the slice that was pushed is the message in the decoder's buffer
    let message = ap (take c.in-Ok-Message.len) (c.dest.ensures.value ∙ ap owned_buffer c.decoder.ensures.value) in
    record {
      stated = text_more _ _ _ _ _ _ c.by_piece.invariant.stated stated.0.stated (pushed ∙ ap (λ l. string_bytes c.by_piece.text ++ outcome_line (Message l)) message);
      few = still_few _ _ _ _ _ _ stated.0 c.by_piece.invariant.few;
      idle = stated.0.idle;
      buffer = len;
    }

-- A BROKEN PIECE: after it, fewer bytes are left
pub by_piece-smaller-in-Continue-branch-3 : goal.by_piece-smaller-in-Continue-branch-3
by_piece-smaller-in-Continue-branch-3 c =
    -- the contract of `next_frame` for this broken piece, and what it says about the report (`stated`)
    let next = rw c.in-Ok-Broken.field-0-is at c.in-Ok-Broken.ensures.next in
    let stated = broken_reported c.law_9.ensures _ _ _ _ _ next c.by_piece.invariant.idle (c.in-Ok-Broken.ensures.len ∙ c.by_piece.invariant.buffer) in
    stated.fewer

-- the line of a broken piece is added to the text
pub by_piece-preserved-in-Continue-branch-3 : goal.by_piece-preserved-in-Continue-branch-3
by_piece-preserved-in-Continue-branch-3 c =
    -- the contract of `next_frame` for this broken piece, and what it says about the report (`stated`)
    let next = rw c.in-Ok-Broken.field-0-is at c.in-Ok-Broken.ensures.next in
    let len = c.in-Ok-Broken.ensures.len ∙ c.by_piece.invariant.buffer in
    let stated = broken_reported c.law_9.ensures _ _ _ _ _ next c.by_piece.invariant.idle len in
    record {
      stated = text_more _ _ _ _ _ _ c.by_piece.invariant.stated stated.stated c.in_ok-push_broken-in-Ok-Broken.ensures;
      few = still_few _ _ _ _ _ _ stated c.by_piece.invariant.few;
      idle = stated.idle;
      buffer = len;
    }

-- A PIECE THAT IS TOO LONG: after it, fewer bytes are left
pub by_piece-smaller : goal.by_piece-smaller
by_piece-smaller c =
    -- the contract of `next_frame` for this piece, and what it says about the report (`stated`)
    let next = rw c.in-Ok-TooLong.field-0-is at c.in-Ok-TooLong.ensures.next in
    let stated = too_long_reported c.law_9.ensures _ _ _ _ next c.by_piece.invariant.idle (c.in-Ok-TooLong.ensures.len ∙ c.by_piece.invariant.buffer) in
    stated.fewer

-- the line of a piece that is too long is added to the text
pub by_piece-preserved : goal.by_piece-preserved
by_piece-preserved c =
    -- the contract of `next_frame` for this piece, and what it says about the report (`stated`)
    let next = rw c.in-Ok-TooLong.field-0-is at c.in-Ok-TooLong.ensures.next in
    let len = c.in-Ok-TooLong.ensures.len ∙ c.by_piece.invariant.buffer in
    let stated = too_long_reported c.law_9.ensures _ _ _ _ next c.by_piece.invariant.idle len in
    record {
      stated = text_more _ _ _ _ _ _ c.by_piece.invariant.stated stated.stated c.in_ok-push_str-in-Ok-TooLong.ensures.bytes;
      few = still_few _ _ _ _ _ _ stated c.by_piece.invariant.few;
      idle = stated.idle;
      buffer = len;
    }

-- THE END of the stream: the line for an unfinished piece is added, if there is one, and the text is the whole report
pub returns-in-Ok-End : goal.returns-in-Ok-End
returns-in-Ok-End c =
    -- the contract of `next_frame` for the end, by which nothing is still to be reported, except the line for an
    -- unfinished piece if there is one (`last`)
    let next = rw c.in-Ok-End.field-0-is at c.in-Ok-End.ensures.next in
    let last = stream_end_reported _ _ _ _ _ next c.by_piece.invariant.idle (c.in-Ok-End.ensures.len ∙ c.by_piece.invariant.buffer) in
    record {
      report = elim c.if-unfinished.branch [
        -- a piece is unfinished, and its line was pushed
        | then-unfinished+in_ok-push_str-in-Ok-End w ↦
            text_all _ _ _ _ _ c.by_piece.invariant.stated (last ∙ ap unfinished_text w.if-unfinished.true)
            (ap string_bytes w.text-is ∙ w.in_ok-push_str-in-Ok-End.ensures.bytes)
        -- no piece is unfinished, and nothing was pushed
        | else-unfinished w ↦
            text_all _ _ _ _ _ c.by_piece.invariant.stated (last ∙ ap unfinished_text w.if-unfinished.false) (ap string_bytes w.text-is ∙ sym (append-nil _))
      ];
    }

-- a fault of `next_frame` is impossible, so the call of `unreachable` is never made
pub unreachable-requires : goal.unreachable-requires
unreachable-requires c = no_fault _ _ _ _ _ c.in-Err.ensures.next c.by_piece.invariant.idle c.by_piece.invariant.few
