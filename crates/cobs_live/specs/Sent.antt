-- The lines that a run of `send` has read, and the frames that it has written.
use Rattle.std.specs.Prelude.{ℕ, ◌≡◌, ◌↔◌, ◌-◌, ◌==◌, ◌&&◌, ◌||◌, not, nat_lt, Bool, true, false, IsTrue, IsOk, List, [], ◌∷◌, ◌++◌, filter, length, take, slice_index, All, Option, IfSome, Result, Ok, Err, MatchResult, if◌then◌else◌}
use Rattle.std.specs.List.{AllZip, concat}
use Rattle.std.specs.Io.{StopsAt}
use Rattle.std.specs.Io.KnownBytes.{Appends, Consumes, IsAtEnd}
use Rattle.hex.specs.Hex.{decode_of}
use Rattle.cobs.specs.Sentinel.{IsEncodedFrameFor}
use Rattle.cobs_live.specs.Checksum.{with_sum}
use Rattle.cobs_live.specs.declared.fault.WatchFault.{WatchFault}
use Rattle.cobs_live.specs.declared.fault.WatchFault.TheVariants.{ReadFailed, WriteFailed, OutputClosed, OutOfMemory}
use Rattle.cobs_live.specs.declared.send.Settings.{Settings}

-- a line without the newline at its end; 10 is the newline
abbrev pub text_of : List ℕ → List ℕ
text_of line = if nat_lt 0 (length line) && (slice_index line (length line - 1) == 10) then take (length line - 1) line else line

-- the bytes are the message's frame for this sentinel, followed by the sentinel
pub record IsSent (sentinel : ℕ) (message bytes : List ℕ) : Type 0 where
  pub frame : List ℕ
  pub encoded : IsEncodedFrameFor sentinel frame message
  pub ended : bytes ≡ frame ++ sentinel ∷ []

-- the bytes that are written for a message: the frame of the message (with its checksum, if the settings have one),
-- followed by the sentinel
abbrev pub SendsMessage : Settings → List ℕ → List ℕ → Type 0
SendsMessage settings message bytes = IsSent settings.sentinel (with_sum settings.checksum message) bytes

-- whether a byte of a line counts as a digit: it isn't a space, a tab, or the carriage return that other systems write
-- before a newline
abbrev pub is_digit : ℕ → Bool
is_digit byte = not ((byte == 32) || ((byte == 9) || (byte == 13)))

-- the bytes of a text that count as digits
abbrev pub digits_of : List ℕ → List ℕ
digits_of text = filter is_digit text

-- the bytes that are written for the text of a line. Without `hex`, the text is the message. With `hex`, the bytes of
-- the text that count as digits are two hexadecimal digits for each byte of the message; if they aren't, nothing is
-- written.
abbrev pub SendsAs : (hex : Bool) → Settings → List ℕ → List ℕ → Type 0
SendsAs false settings text bytes = SendsMessage settings text bytes
SendsAs true settings text bytes = MatchResult (decode_of (digits_of text)) (λ message. SendsMessage settings message bytes) (λ error. bytes ≡ [])

-- `SendsAs` with the value of `hex` in the settings
abbrev pub SendsText : Settings → List ℕ → List ℕ → Type 0
SendsText settings text bytes = SendsAs settings.hex settings text bytes

-- the text of a line can be sent; with `hex`, the bytes of the text that count as digits must be two hexadecimal digits
-- for each byte of a message
abbrev pub IsSendable : Settings → List ℕ → Type 0
IsSendable settings text = IsTrue settings.hex → IsOk (decode_of (digits_of text))

-- these lines, with a byte put before the first line
abbrev pub in_front : ℕ → List (List ℕ) → List (List ℕ)
in_front byte [] = (byte ∷ []) ∷ []
in_front byte (line ∷ lines) = (byte ∷ line) ∷ lines

-- the lines of some bytes, each with the newline that ends it; the last line may have no newline
unfoldable pub lines_of : List ℕ → List (List ℕ)
lines_of [] = []
lines_of (byte ∷ bytes) = if byte == 10 then (byte ∷ []) ∷ lines_of bytes else in_front byte (lines_of bytes)

-- The first lines of the reader, `lines`, were read, and `sent` has the bytes that were written for each line. `rest`
-- was read after these lines and not sent: a failed read cut `rest` off, memory ran out for the frame of `rest`, or
-- `rest` is empty.
pub record HasSentLines (settings : Settings) (rest : List ℕ) (from to before after : Option (List ℕ)) : Type 0 where
  pub lines : List (List ℕ)
  pub first : IfSome from (λ bytes. (more : List (List ℕ)) × (lines_of bytes ≡ lines ++ more))
  pub each_stops : All (λ line. StopsAt line 10) lines
  pub rest_stops : StopsAt rest 10
  pub sent : List (List ℕ)
  pub each : AllZip (λ line bytes. SendsText settings (text_of line) bytes) lines sent
  pub read : Consumes from to (concat lines ++ rest)
  pub written : Appends before after (concat sent)

-- all lines of the reader were read, and `all_sent` says whether each line could be sent
pub record HasSentAll (settings : Settings) (all_sent : Bool) (from to before after : Option (List ℕ)) : Type 0 where
  pub so_far : HasSentLines settings [] from to before after
  pub all : IfSome from (λ bytes. so_far.lines ≡ lines_of bytes)
  pub end : IfSome from (λ bytes. IsAtEnd to)
  pub flag : IsTrue all_sent ↔ All (λ line. IsSendable settings (text_of line)) so_far.lines

-- the bytes that were written are the frames of the lines that were read
pub record HoldsFrames (settings : Settings) (before : Option (List ℕ)) (came : List (List ℕ)) (after : Option (List ℕ)) : Type 0 where
  pub sent : List (List ℕ)
  pub each : AllZip (λ line bytes. SendsText settings (text_of line) bytes) came sent
  pub written : Appends before after (concat sent)

-- the effects of a run of `send` with this result. After a failed write nothing is claimed: part of a frame may have
-- been written.
abbrev pub HasSent : Settings → Result Bool WatchFault → (from to before after : Option (List ℕ)) → Type 0
HasSent settings (Ok all_sent) from to before after = HasSentAll settings all_sent from to before after
HasSent settings (Err ReadFailed) from to before after = (rest : List ℕ) × HasSentLines settings rest from to before after
HasSent settings (Err OutOfMemory) from to before after = (rest : List ℕ) × HasSentLines settings rest from to before after
HasSent settings (Err WriteFailed) from to before after = Unit {0}
HasSent settings (Err OutputClosed) from to before after = Unit {0}
