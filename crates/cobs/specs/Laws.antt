-- Definitions that the contracts of the laws use.
use Rattle.std.specs.Prelude.{◌≡◌, ◌≢◌, ◌<◌, ◌≤◌, ◌+◌, ℕ, List, [], ◌∷◌, ◌++◌, ◌⊎◌, length, take, slice_index, slice_set, true, false, All, Option, Some, None, Ok, Result}
use Rattle.std.specs.List.{concat}
use Rattle.cobs.specs.Feed.{DecoderAfter, Feeds, Idle, Phase}
use Rattle.cobs.specs.FeedPiece.{TakesPiece, end_reported, outcome_at}
use Rattle.cobs.specs.Fields.Encoders.{IsPlaceIn}
use Rattle.cobs.specs.Grammar.{HasNoZero, lone_block, IsEncodedFrame, Reads}
use Rattle.cobs.specs.Headline.{IsPiece, PushesMessage}
use Rattle.cobs.specs.Length.{EndsInFullRun, encoded_len}
use Rattle.cobs.specs.OpenBlock.{CobsEncoderAfter, Reached, next_of, place_at}
use Rattle.cobs.specs.Push.{PushesBytes}
use Rattle.cobs.specs.Step.{next_result, next_buffer, next_phase}
use Rattle.cobs.specs.Stream.{ended_pieces, outcome_of, stream_outcomes, unended}
use Rattle.cobs.specs.Table.{FeedsByTable}
use Rattle.cobs.specs.declared.error.DecodeError.{DecodeError}
use Rattle.cobs.specs.declared.error.DecodeReport.{DecodeReport}
use Rattle.cobs.specs.declared.error.PushError.{PushError}
use Rattle.cobs.specs.declared.dec.frame_decoder.PieceEnd.{PieceEnd}
use Rattle.cobs.specs.declared.dec.frame_decoder.PieceEnd.TheVariants.{Message}

-- f is the encoded frame of the message m; or m ends in a full run, and f is the encoded frame of m followed by the
-- lone block
abbrev pub IsFrameFor : List ℕ → List ℕ → Type 0
IsFrameFor f m = IsEncodedFrame f m ⊎ (EndsInFullRun m × ((g : List ℕ) × IsEncodedFrame g m × (f ≡ g ++ lone_block)))

-- p consists of the first blocks of this list, end to end: none of them, some of them or all of them. So p is empty, or
-- ends at the end of a block.
abbrev pub EndsAtBlock : List ℕ → List (List ℕ) → Type 0
EndsAtBlock p blocks = (first : List (List ℕ)) × (rest : List (List ℕ)) × (blocks ≡ first ++ rest) × (p ≡ concat first)

-- the list xs begins with `front`
abbrev pub IsFront : List ℕ → List ℕ → Type 0
IsFront front xs = (rest : List ℕ) × (xs ≡ front ++ rest)

-- the stream is empty or ends in a sentinel, so no piece is open
abbrev pub IsAtSentinel : List ℕ → Type 0
IsAtSentinel t = (t ≡ []) ⊎ ((front : List ℕ) × (t ≡ front ++ 0 ∷ []))

-- the clause of `law_9`: a stream may be cut anywhere. The facts are a record, so that a lemma can have them as one
-- argument.
pub record StreamLaw : Type 0 where
  -- the outcomes of x ++ y are those of x, and then those of `unended x ++ y`
  pub cut : (x y : List ℕ) (n : ℕ) → stream_outcomes (x ++ y) n ≡ stream_outcomes x n ++ stream_outcomes (unended x ++ y) n
  -- x ++ y has the same unended bytes as `unended x ++ y`
  pub left : (x y : List ℕ) → unended (x ++ y) ≡ unended (unended x ++ y)
  -- after a zero, no byte is unended
  pub ended : (x : List ℕ) → unended (x ++ 0 ∷ []) ≡ []
  -- no unended byte is a zero
  pub begun : (x : List ℕ) → HasNoZero (unended x)
  -- if a stream has no zero, all its bytes are unended, and it has no outcome
  pub same : (x : List ℕ) → HasNoZero x → unended x ≡ x
  pub none : (x : List ℕ) (n : ℕ) → HasNoZero x → stream_outcomes x n ≡ []
  -- as `cut`, for the pieces that a zero ends
  pub pieces : (x y : List ℕ) → ended_pieces (x ++ y) ≡ ended_pieces x ++ ended_pieces (unended x ++ y)
  -- one or more nonzero bytes and a zero after them are one piece
  pub piece : (x : List ℕ) → x ≢ [] → HasNoZero x → ended_pieces (x ++ 0 ∷ []) ≡ x ∷ []

-- the clause of `law_16`: the steps of an encoder that writes to a slice, byte by byte. In each field that has an m, the
-- encoder has taken m, and has the progress `reached` in the slice.
pub record EncoderLaw : Type 0 where
  -- at the start, the encoder has taken no byte, and the open block begins at index 0
  pub nothing : (slice : List ℕ) → 0 < length slice → CobsEncoderAfter slice (place_at 0 1 false) []
  -- the progress is possible in the slice
  pub place : (slice m : List ℕ) (reached : Reached) → CobsEncoderAfter slice reached m → IsPlaceIn (length slice) reached
  -- the length of the whole frame if these bytes follow m; a is any list of nonzero bytes, as many as the open block
  -- has after its code
  pub goes_on : (slice m a bytes : List ℕ) (reached : Reached) → CobsEncoderAfter slice reached m → HasNoZero a → length a + 1 ≡ reached.block.code → bytes ≢ [] → encoded_len (m ++ bytes) ≡ reached.block.index + encoded_len (a ++ bytes)
  -- a nonzero byte that doesn't fill the open block is written after the block's other bytes
  pub joins : (slice m : List ℕ) (reached : Reached) (byte : ℕ) → CobsEncoderAfter slice reached m → byte ≢ 0 → reached.block.code < 254 → next_of reached < length slice → CobsEncoderAfter (slice_set slice (next_of reached) byte) (place_at reached.block.index (reached.block.code + 1) false) (m ++ byte ∷ [])
  -- the 254th nonzero byte of the open block is written, and then the code 255; a placeholder follows the block
  pub fills : (slice m : List ℕ) (reached : Reached) (byte : ℕ) → CobsEncoderAfter slice reached m → byte ≢ 0 → reached.block.code ≡ 254 → next_of reached < length slice → CobsEncoderAfter (slice_set (slice_set slice (next_of reached) byte) reached.block.index 255) (place_at (reached.block.index + 255) 1 true) (m ++ byte ∷ [])
  -- for a zero, the code of the open block is written; the next block begins after the open block
  pub closes : (slice m : List ℕ) (reached : Reached) → CobsEncoderAfter slice reached m → next_of reached < length slice → CobsEncoderAfter (slice_set slice reached.block.index reached.block.code) (place_at (next_of reached) 1 false) (m ++ 0 ∷ [])
  -- at the end, if the last block isn't full, its code is written
  pub frame : (slice m : List ℕ) (reached : Reached) → CobsEncoderAfter slice reached m → reached.full ≡ false → IsEncodedFrame (take (next_of reached) (slice_set slice reached.block.index reached.block.code)) m
  -- at the end, if the last block is full, the slice has the frame already
  pub full_frame : (slice m : List ℕ) (reached : Reached) → CobsEncoderAfter slice reached m → reached.full ≡ true → IsEncodedFrame (take reached.block.index slice) m

-- the clause of `law_17`: the steps of a decoder, byte by byte
pub record DecoderLaw : Type 0 where
  -- the step of `Step.antt` for a byte meets `Feeds`, the contract of `feed`
  pub step : (buffer : List ℕ) (phase : Phase) (byte : ℕ) → let n = length buffer in Feeds buffer phase byte (next_result n phase byte) (next_buffer buffer phase byte) (next_phase n phase byte)
  -- this step follows the table of `DecoderState`, as `FeedsByTable` says
  pub by_table : (n : ℕ) (phase : Phase) (byte : ℕ) → FeedsByTable n phase byte (next_result n phase byte) (next_phase n phase byte)
  -- if no bytes are fed, no piece ends, and nothing changes
  pub nothing : (buffer : List ℕ) (phase : Phase) → TakesPiece buffer phase [] None buffer phase
  -- if no piece ended in the first i bytes, and the next byte doesn't end a piece, no piece ended in the first i + 1
  -- bytes
  pub byte : (bytes buffer between buffer' : List ℕ) (phase phase_between phase' : Phase) (result : Result (Option ℕ) DecodeError) (i : ℕ) → i < length bytes → TakesPiece buffer phase (take i bytes) None between phase_between → Feeds between phase_between (slice_index bytes i) result buffer' phase' → (slice_index bytes i ≡ 0 → end_reported result ≡ None) → TakesPiece buffer phase (take (i + 1) bytes) None buffer' phase'
  -- if no piece ended in the first i bytes, and the next byte is a zero that ends a piece, `feed_piece` stops after this
  -- zero
  pub end : (bytes buffer between buffer' : List ℕ) (phase phase_between phase' : Phase) (result : Result (Option ℕ) DecodeError) (end : PieceEnd) (i : ℕ) → i < length bytes → TakesPiece buffer phase (take i bytes) None between phase_between → Feeds between phase_between (slice_index bytes i) result buffer' phase' → slice_index bytes i ≡ 0 → end_reported result ≡ Some end → TakesPiece buffer phase bytes (Some (end, i + 1)) buffer' phase'

-- the clause of `law_18`: the results of the streaming decoders for a frame. In the fields about `feed_piece` and `push`
-- the decoder is idle. In the fields `fed`, `taken` and `pushed` the message fits the buffer.
pub record FrameLaw : Type 0 where
  -- `feed` of the zero after a fed frame of m returns the length of m, and the buffer then begins with m
  pub fed : (buffer buffer' f m : List ℕ) (phase phase' : Phase) (result : Result (Option ℕ) DecodeError) → Feeds buffer phase 0 result buffer' phase' → DecoderAfter buffer phase f → Reads f m → length m ≤ length buffer → (result ≡ Ok (Some (length m))) × (take (length m) buffer' ≡ m)
  -- if `feed` of the zero after some fed bytes returns a length, these bytes are a frame of the message in the buffer
  pub fed_only : (buffer buffer' f : List ℕ) (phase phase' : Phase) (n : ℕ) → Feeds buffer phase 0 (Ok (Some n)) buffer' phase' → DecoderAfter buffer phase f → All (λ byte. byte < 256) f → Reads f (take n buffer')
  -- `feed_piece` of a frame of m, a zero and more bytes stops after the zero, and returns the length of m
  pub taken : (buffer buffer' f more m : List ℕ) (phase phase' : Phase) (result : Option (PieceEnd × ℕ)) → TakesPiece buffer phase (f ++ 0 ∷ more) result buffer' phase' → phase ≡ Idle → Reads f m → length m ≤ length buffer → (result ≡ Some (Message (length m), length f + 1)) × (take (length m) buffer' ≡ m)
  -- if `feed_piece` of a piece, a zero and more bytes returns a message, the piece is a frame of this message
  pub taken_only : (buffer buffer' f more : List ℕ) (phase phase' : Phase) (n count : ℕ) → TakesPiece buffer phase (f ++ 0 ∷ more) (Some (Message n, count)) buffer' phase' → phase ≡ Idle → IsPiece f → All (λ byte. byte < 256) f → Reads f (take n buffer')
  -- `feed_piece` of a piece, a zero and more bytes stops after the zero, with the outcome of the piece
  pub ends : (buffer buffer' f more : List ℕ) (phase phase' : Phase) (result : Option (PieceEnd × ℕ)) → TakesPiece buffer phase (f ++ 0 ∷ more) result buffer' phase' → phase ≡ Idle → IsPiece f → (end : PieceEnd) × (result ≡ Some (end, length f + 1)) × (outcome_at end buffer' ≡ outcome_of f (length buffer))
  -- a push of a frame of m and a zero returns m
  pub pushed : (buffer buffer' bytes f m : List ℕ) (phase phase' : Phase) (result : Result (Option DecodeReport) PushError) → PushesBytes buffer phase bytes result buffer' phase' → phase ≡ Idle → bytes ≡ f ++ 0 ∷ [] → All (λ byte. byte < 256) bytes → Reads f m → length m ≤ length buffer → PushesMessage result buffer' m
  -- if a push of a piece and a zero returns m, the piece is a frame of m, and m fits the buffer
  pub pushed_only : (buffer buffer' bytes f m : List ℕ) (phase phase' : Phase) (result : Result (Option DecodeReport) PushError) → PushesBytes buffer phase bytes result buffer' phase' → phase ≡ Idle → bytes ≡ f ++ 0 ∷ [] → All (λ byte. byte < 256) bytes → IsPiece f → PushesMessage result buffer' m → Reads f m × (length m ≤ length buffer)
