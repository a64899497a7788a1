-- Lemmas for `report_of`, on the report of a stream: the line of each piece, and the last line. The report of a stream
-- is the line of its first piece and the report of the bytes after it (`report-first`). So after each call of
-- `next_frame`, the text so far and the report of the bytes that are left are together the whole report
-- (`PieceReported`, `text_more`); at the end the text is the whole report (`stream_end_reported`, `text_all`).
use Rattle.std.proofs.Common.{◌≡◌, ◌+◌, ◌<◌, ◌≤◌, ℕ, Bool, if◌then◌else◌, List, [], ◌∷◌, ◌++◌, length, codes, cond, Result, Ok, Err, is_ok, OnOk, refl, ap, sym, ◌∙◌, arith, append_assoc, append-nil, length-append, subst, take}
use Rattle.std.proofs.lemmas.Fmt.{decimal_digit}
use Rattle.std.specs.List.{flat_map}
use Rattle.cobs.specs.Laws.{StreamLaw}
use Rattle.cobs.specs.NextFrame.{Read, Runs, EndsFirst, ReaderState, ReaderAfter, ReadsNext, AtPieceEnd, all_given}
use Rattle.cobs.specs.Stream.{Outcome, Message, Broken, TooLong, is_nonempty, stream_outcomes, unended}
use Rattle.cobs.specs.declared.Next.TheVariants as nexts
use Rattle.cobs.specs.declared.ReadFault.{ReadFault}
use Rattle.cobs.specs.declared.ReadFault.TheVariants as faults
use Rattle.cobs_lines.proofs.MemoryLemmas.{MemoryStep, bytes_left-Runs, never_fails, bytes_left-at_end, few_reads}
use Rattle.cobs_lines.specs.Memory.{bytes_left}
use Rattle.cobs_lines.specs.Lines.{outcome_line}
use Rattle.cobs_tool.specs.Report.{longest_message, report, unfinished_line}
use Rattle.cobs_tool.specs.Input.{max_input}
use Rattle.cobs_lines.specs.declared.memory.InMemory.{InMemory}

-- the line of the empty message is this fixed text
pub outcome_line-empty : (message : List ℕ) → length message ≡ 0 → codes "message 0\n" ≡ outcome_line (Message message)
outcome_line-empty [] e = sym (rw (decimal_digit 0 (omega arith)) refl)
outcome_line-empty (byte ∷ bytes) e = absurd (omega arith)

-- if a push of `line` succeeded, and `line` is equal to `line'`, the text is now the old text and `line'`
pub pushed_line : {E : Type 0} (r : Result (Unit {0}) E) (old new line line' : List ℕ) → line ≡ line'
    → new ≡ cond (is_ok r) (old ++ line) old → OnOk r (new ≡ old ++ line')
pushed_line (Ok v) old new line line' e pushed = pushed ∙ ap (λ l. old ++ l) e
pushed_line (Err v) old new line line' e pushed = tt

-- PIECE BY PIECE

-- the report is the line of each outcome, one after another, and the line for an unfinished piece; n is the length of
-- the longest message
report_is : (stream : List ℕ) (n : ℕ) → n ≡ longest_message → report stream ≡ flat_map outcome_line (stream_outcomes stream n) ++ unfinished_line stream
report_is stream n e = ap (λ k. flat_map outcome_line (stream_outcomes stream k) ++ unfinished_line stream) (sym e)

-- the unended bytes of a stream are the unended bytes of the bytes that follow one of its zeros
unended-behind : (law : StreamLaw) (front behind : List ℕ) → unended (front ++ 0 ∷ behind) ≡ unended behind
unended-behind law front behind =
    ap unended (sym (append_assoc front (0 ∷ []) behind)) ∙ law.left (front ++ 0 ∷ []) behind ∙ ap (λ l. unended (l ++ behind)) (law.ended front)

-- if the first piece that ends in t has this outcome, and the bytes `behind` follow this piece, the report of t and
-- more bytes is the line of the outcome, and then the report of `behind` and these more bytes
report-first : (law : StreamLaw) (t behind more : List ℕ) (n : ℕ) (outcome : Outcome) → n ≡ longest_message → EndsFirst t n outcome behind
    → report (t ++ more) ≡ outcome_line outcome ++ report (behind ++ more)
report-first law t behind more n outcome e first =
    -- t has the same unended bytes as `behind`
    let same : unended t ≡ unended behind = ap unended first.cut ∙ unended-behind law first.front behind in
    -- the outcomes of the whole stream are this outcome and those of the bytes after the piece
    let outcomes : stream_outcomes (t ++ more) n ≡ outcome ∷ stream_outcomes (behind ++ more) n =
    law.cut t more n ∙ ap (λ l. l ++ stream_outcomes (unended t ++ more) n) first.outcomes
    ∙ ap (λ l. outcome ∷ (stream_outcomes behind n ++ stream_outcomes (l ++ more) n)) same
    ∙ ap (λ l. outcome ∷ l) (sym (law.cut behind more n)) in
    -- the unended bytes, which decide the last line, are those of the bytes after the piece
    let begun : unended (t ++ more) ≡ unended (behind ++ more) =
    law.left t more ∙ ap (λ l. unended (l ++ more)) same ∙ sym (law.left behind more) in
    report_is (t ++ more) n e
    ∙ ap (λ l. flat_map outcome_line l ++ unfinished_line (t ++ more)) outcomes
    ∙ append_assoc (outcome_line outcome) (flat_map outcome_line (stream_outcomes (behind ++ more) n)) (unfinished_line (t ++ more))
    ∙ ap (λ l. outcome_line outcome ++ (flat_map outcome_line (stream_outcomes (behind ++ more) n) ++ (if is_nonempty l then codes "unfinished\n" else []))) begun
    ∙ ap (λ l. outcome_line outcome ++ l) (sym (report_is (behind ++ more) n e))

-- the report of a stream in which no piece ends is only the line for an unfinished piece, if any
report-none : (t : List ℕ) (n : ℕ) → n ≡ longest_message → stream_outcomes t n ≡ [] → report t ≡ unfinished_line t
report-none t n e none = report_is t n e ∙ ap (λ l. flat_map outcome_line l ++ unfinished_line t) none

-- AFTER A CALL OF `next_frame`

-- the bytes that are still to be reported: those that the reader has kept, and those that it hasn't read yet
abbrev pub left_of : ReaderState → InMemory → List ℕ
left_of reader source = reader.kept ++ bytes_left source

-- A call of `next_frame` has reached the end of a piece with this outcome. The line of the outcome is the first line of
-- those that were still to be reported (`stated`), fewer bytes are left (`fewer`), and the reader is idle.
pub record PieceReported (reader : ReaderState) (source : InMemory) (reader' : ReaderState) (source' : InMemory) (outcome : Outcome) : Type 0 where
  pub stated : report (left_of reader source) ≡ outcome_line outcome ++ report (left_of reader' source')
  pub fewer : length reader'.kept + length (bytes_left source') < length reader.kept + length (bytes_left source)
  pub idle : ReaderAfter reader' []

-- the bytes that were still to be reported before the call are the bytes that the reader had kept, those that the reads
-- returned, and those that the source still has
left_of-given : (reader : ReaderState) (source : InMemory) (reads : List Read) (source' : InMemory) → Runs MemoryStep source reads source'
    → left_of reader source ≡ (reader.kept ++ all_given reads) ++ bytes_left source'
left_of-given reader source reads source' runs =
    ap (λ l. reader.kept ++ l) (bytes_left-Runs source reads source' runs) ∙ sym (append_assoc reader.kept (all_given reads) (bytes_left source'))

-- if the reader is at the end of a piece after the reads (`AtPieceEnd`), the call has reported this piece
-- (`PieceReported`)
pub PieceReported-from : (law : StreamLaw) (reader : ReaderState) (source : InMemory) (reader' : ReaderState) (source' : InMemory) (reads : List Read) (outcome : Outcome)
    → length reader'.buffer ≡ longest_message → Runs MemoryStep source reads source' → AtPieceEnd (reader.kept ++ all_given reads) outcome reader'
    → PieceReported reader source reader' source' outcome
PieceReported-from law reader source reader' source' reads outcome len runs end =
    -- the bytes that the source still has, and the equation of `left_of-given`; `whole` and `cut` count these bytes and
    -- the bytes of the stream up to the piece's end
    let more = bytes_left source' in
    let given = left_of-given reader source reads source' runs in
    let whole = ap length given in
    let cut = ap length end.first.cut in
    record {
      -- the line of this piece comes first, by `report-first`
      stated = ap report given ∙ report-first law (reader.kept ++ all_given reads) reader'.kept more (length reader'.buffer) outcome len end.first;
      -- the zero that ended the piece isn't left any more
      fewer = omega (arith, length-append reader.kept (bytes_left source), length-append (reader.kept ++ all_given reads) more, length-append end.first.front (0 ∷ reader'.kept));
      idle = end.idle;
    }

-- THE REPORT OF EACH RESULT of `next_frame`, if the reader was idle before the call

-- the result is a message: its line is reported, and the message fits the buffer
pub message_reported : (law : StreamLaw) (reader : ReaderState) (source : InMemory) (reader' : ReaderState) (source' : InMemory) (n : ℕ)
    → ReadsNext MemoryStep source source' reader (Ok (nexts.Message n)) reader' → ReaderAfter reader [] → length reader'.buffer ≡ longest_message
    → PieceReported reader source reader' source' (Message (take n reader'.buffer)) × (n ≤ length reader'.buffer)
message_reported law reader source reader' source' n next idle len =
    let stated = next.result_says [] idle in
    (PieceReported-from law reader source reader' source' next.reads _ len next.runs stated.0, stated.1)

-- the result is a broken piece: its line is reported
pub broken_reported : (law : StreamLaw) (reader : ReaderState) (source : InMemory) (reader' : ReaderState) (source' : InMemory) (count : ℕ)
    → ReadsNext MemoryStep source source' reader (Ok (nexts.Broken count)) reader' → ReaderAfter reader [] → length reader'.buffer ≡ longest_message
    → PieceReported reader source reader' source' (Broken count)
broken_reported law reader source reader' source' count next idle len =
    PieceReported-from law reader source reader' source' next.reads _ len next.runs (next.result_says [] idle)

-- the result is a piece that is too long: its line is reported
pub too_long_reported : (law : StreamLaw) (reader : ReaderState) (source : InMemory) (reader' : ReaderState) (source' : InMemory)
    → ReadsNext MemoryStep source source' reader (Ok nexts.TooLong) reader' → ReaderAfter reader [] → length reader'.buffer ≡ longest_message
    → PieceReported reader source reader' source' TooLong
too_long_reported law reader source reader' source' next idle len =
    PieceReported-from law reader source reader' source' next.reads _ len next.runs (next.result_says [] idle)

-- the line for an unfinished piece, or nothing
abbrev pub unfinished_text : Bool → List ℕ
unfinished_text unfinished = if unfinished then codes "unfinished\n" else []

-- the result is the end of the stream: the report of the bytes that were left is only the line for an unfinished piece,
-- if any
pub stream_end_reported : (reader : ReaderState) (source : InMemory) (reader' : ReaderState) (source' : InMemory) (unfinished : Bool)
    → ReadsNext MemoryStep source source' reader (Ok (nexts.End unfinished)) reader' → ReaderAfter reader [] → length reader'.buffer ≡ longest_message
    → report (left_of reader source) ≡ unfinished_text unfinished
stream_end_reported reader source reader' source' unfinished next idle len =
    -- the stream of this call; it is all that was left, because the last read returned no byte (`none`)
    let t = reader.kept ++ all_given next.reads in
    let stated = next.result_says [] idle in
    let (earlier, last) = stated.1 in
    let none : bytes_left source' ≡ [] = bytes_left-at_end source earlier source' (subst (λ reads. Runs MemoryStep source reads source') last next.runs) in
    ap report (left_of-given reader source next.reads source' next.runs ∙ ap (λ l. t ++ l) none ∙ append-nil t)
    ∙ report-none t (length reader'.buffer) len stated.0.none_ended
    ∙ ap unfinished_text (sym stated.2)

-- a result that is a fault is impossible for a stream of at most `max_input` bytes: no read of a source in memory
-- fails, and 65,536 reads of 64 bytes would be more bytes than the stream has
pub no_fault : (reader : ReaderState) (source : InMemory) (reader' : ReaderState) (source' : InMemory) (fault : ReadFault)
    → ReadsNext MemoryStep source source' reader (Err fault) reader' → ReaderAfter reader [] → length (left_of reader source) ≤ max_input → ⊥
no_fault reader source reader' source' faults.Io next idle few =
    let (earlier, last) = (next.result_says [] idle).1 in
    never_fails source earlier source' (subst (λ reads. Runs MemoryStep source reads source') last next.runs)
no_fault reader source reader' source' faults.TooManyReads next idle few =
    let stated = next.result_says [] idle in
    let enough = few_reads source next.reads source' next.runs stated.2 in
    let count = stated.1 in
    omega (arith, length-append reader.kept (bytes_left source))

-- if the text and the report `rest` of what is left are the whole report, and `line` is the first line of `rest`, this
-- is still so after `line` was appended to the text
pub text_more : (text text' line rest rest' whole : List ℕ) → text ++ rest ≡ whole → rest ≡ line ++ rest' → text' ≡ text ++ line → text' ++ rest' ≡ whole
text_more text text' line rest rest' whole before first pushed =
    ap (λ l. l ++ rest') pushed ∙ append_assoc text line rest' ∙ ap (λ l. text ++ l) (sym first) ∙ before

-- at the start, the text is empty, and the report of what is left is the report of the stream
pub report-start : (text kept left stream : List ℕ) → text ≡ [] → kept ≡ [] → left ≡ stream → text ++ report (kept ++ left) ≡ report stream
report-start text kept left stream none nothing all = ap (λ l. l ++ report (kept ++ left)) none ∙ ap (λ l. report (l ++ left)) nothing ∙ ap report all

-- if the text and `rest` are the whole report, and `line` is all of `rest`, the text with `line` appended is the whole
-- report
pub text_all : (text text' line rest whole : List ℕ) → text ++ rest ≡ whole → rest ≡ line → text' ≡ text ++ line → text' ≡ whole
text_all text text' line rest whole before last pushed = pushed ∙ ap (λ l. text ++ l) (sym last) ∙ before

-- if at most `most` bytes were still to be reported before a piece was reported, at most `most` are after it
pub still_few : (reader : ReaderState) (source : InMemory) (reader' : ReaderState) (source' : InMemory) (outcome : Outcome) (most : ℕ)
    → PieceReported reader source reader' source' outcome → length (left_of reader source) ≤ most → length (left_of reader' source') ≤ most
still_few reader source reader' source' outcome most piece few =
    let fewer = piece.fewer in
    omega (arith, length-append reader.kept (bytes_left source), length-append reader'.kept (bytes_left source'))

-- At the start, all of the stream is still to be reported, and it has at most `most` bytes. `left` is what the source
-- still has.
pub few_at_start : (kept left stream : List ℕ) (most : ℕ) → kept ≡ [] → left ≡ stream → length stream ≤ most → length (kept ++ left) ≤ most
few_at_start kept left stream most nothing all few =
    let same : kept ++ left ≡ stream = ap (λ l. l ++ left) nothing ∙ all in
    rw same few
