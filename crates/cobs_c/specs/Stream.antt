-- The postconditions of the calls whose state and buffer belong to the caller.
use Rattle.std.specs.Prelude.{◌≡◌, ◌≢◌, ◌≤◌, ◌<◌, ◌+◌, ◌↔◌, ◌++◌, [], ℕ, List, length, drop, false}
use Rattle.cobs.specs.Feed.{DecoderAfter, Idle}
use Rattle.cobs.specs.FeedPiece.{TakesPiece}
use Rattle.cobs.specs.Fields.Decoders.{phase_of}
use Rattle.cobs.specs.Fields.Encoders.{reached_by}
use Rattle.cobs.specs.Length.{encoded_len}
use Rattle.cobs.specs.OpenBlock.{CobsEncoderAfter, end_of}
use Rattle.cobs.specs.Step.{held}
use Rattle.cobs.specs.declared.UnbufferedDecoder.{UnbufferedDecoder}
use Rattle.cobs.specs.declared.UnbufferedEncoder.{UnbufferedEncoder}
use Rattle.cobs_c.specs.Answer.{piece_end_of}
use Rattle.cobs_c.specs.Encode.{Writes}
use Rattle.cobs_c.specs.declared.answer.Answer.{Answer}
use Rattle.cobs_c.specs.declared.answer.TheConstants.{OK, MORE, TOO_SMALL, BROKEN}

-- `jcobs_decoder_reset`: the decoder is idle, and has consumed nothing
pub record IsFreshDecoder (decoder : UnbufferedDecoder) : Type 0 where
  pub idle : phase_of decoder ≡ Idle
  pub after : (buffer : List ℕ) → DecoderAfter buffer (phase_of decoder) []

-- `jcobs_decoder_is_idle`: the result is 1 if no piece is open, and 0 otherwise
pub record ReportsIdle (decoder : UnbufferedDecoder) (result : ℕ) : Type 0 where
  pub idle : phase_of decoder ≡ Idle → result ≡ 1
  pub open_piece : phase_of decoder ≢ Idle → result ≡ 0

-- `jcobs_decoder_push`; `jcobs_decoder_feed` of one byte; `jcobs_decoder_push_with_sentinel` of bytes that are XORed
-- with the sentinel. The decoder consumes the bytes up to and including the zero that ends the first piece, or all
-- bytes if no piece ends.
pub record DecodesNext (decoder : UnbufferedDecoder) (buffer bytes : List ℕ) (result : Answer) (decoder' : UnbufferedDecoder) (buffer' : List ℕ) : Type 0 where
  pub takes : TakesPiece buffer (phase_of decoder) bytes (piece_end_of result) buffer' (phase_of decoder')
  pub more : result.status ≡ MORE
      → result ≡ record { status = MORE; consumed = length bytes; length = held (length buffer) (phase_of decoder') }
  pub too_small : result.status ≡ TOO_SMALL → result.length ≡ length buffer
  -- the remaining fields hold in every state, even a corrupt one
  pub status : result.status ≤ BROKEN
  pub consumed : result.consumed ≤ length bytes
  pub bound : result.length ≤ length buffer
  pub len : length buffer' ≡ length buffer

-- `jcobs_encoder_reset`: the encoder has consumed nothing
pub record IsFreshEncoder (encoder : UnbufferedEncoder) : Type 0 where
  pub start : reached_by encoder ≡ record { block = record { index = 0; code = 1 }; full = false }
  pub taken : (buffer : List ℕ) → 0 < length buffer → CobsEncoderAfter buffer (reached_by encoder) []

-- `jcobs_encoder_push`, and `jcobs_encoder_feed` of one byte: the encoder consumes the bytes, if the frame of the
-- message up to and including these bytes fits the buffer
pub record EncodesNext (encoder : UnbufferedEncoder) (buffer bytes : List ℕ) (result : Answer) (encoder' : UnbufferedEncoder) (buffer' : List ℕ) : Type 0 where
  pub fits : (m : List ℕ) → CobsEncoderAfter buffer (reached_by encoder) m
      → ((result.status ≡ OK) ↔ (encoded_len (m ++ bytes) ≤ length buffer))
  pub taken : result.status ≡ OK → (m : List ℕ) → CobsEncoderAfter buffer (reached_by encoder) m
      → CobsEncoderAfter buffer' (reached_by encoder') (m ++ bytes)
  pub counted : result.status ≡ OK → (m : List ℕ) → CobsEncoderAfter buffer (reached_by encoder) m → result.length ≡ encoded_len (m ++ bytes)
  -- the remaining fields hold in every state, even a corrupt one
  pub returned : result.status ≡ OK
      → result ≡ record { status = OK; consumed = length bytes; length = end_of (reached_by encoder') }
  pub too_small : result.status ≢ OK → result ≡ record { status = TOO_SMALL; consumed = 0; length = 0 }
  pub rejected : result.status ≢ OK → encoder' ≡ encoder
  pub rest : drop result.length buffer' ≡ drop result.length buffer
  pub bound : result.length ≤ length buffer
  pub len : length buffer' ≡ length buffer

-- `jcobs_encoder_finish` and its forms, which write a sentinel after the frame or encode for another sentinel: the
-- encoder ends the message, if the bytes to write fit the buffer. `added` is the number of bytes after the frame.
-- `IsWanted` says which bytes are right for a message.
pub record Finishes (added : ℕ) (IsWanted : List ℕ → List ℕ → Type 0) (encoder : UnbufferedEncoder) (buffer : List ℕ) (result : Answer) (encoder' : UnbufferedEncoder) (buffer' : List ℕ) : Type 0 where
  pub writes : (m : List ℕ) → CobsEncoderAfter buffer (reached_by encoder) m
      → Writes (encoded_len m + added) 0 (λ bytes. IsWanted bytes m) buffer result buffer'
  -- the remaining fields hold in every state, even a corrupt one
  pub returned : result.status ≡ OK
      → result ≡ record { status = OK; consumed = 0; length = end_of (reached_by encoder) + added }
  pub fresh : result.status ≡ OK → IsFreshEncoder encoder'
  pub too_small : result.status ≢ OK → result ≡ record { status = TOO_SMALL; consumed = 0; length = 0 }
  pub rejected : result.status ≢ OK → encoder' ≡ encoder
  pub empty : length buffer ≡ 0 → result ≡ record { status = TOO_SMALL; consumed = 0; length = 0 }
  pub rest : drop result.length buffer' ≡ drop result.length buffer
  pub bound : result.length ≤ length buffer
  pub len : length buffer' ≡ length buffer
