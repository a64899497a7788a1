-- Several messages in vectors: the outcomes that stand for them, their frames, and the room that their frames need.
use Rattle.std.specs.Prelude.{ℕ, ◌≡◌, ◌+◌, List, [], ◌∷◌, ◌++◌, length, map, sum_by}
use Rattle.std.specs.List.{AllZip, flat_map}
use Rattle.std.specs.Global.{Vec}
use Rattle.cobs.specs.Grammar.{IsEncodedFrame}
use Rattle.cobs.specs.Length.{max_encoded_len}
use Rattle.cobs.specs.Stream.{Outcome, Message, Broken, TooLong}
use Rattle.cobs.specs.declared.stream.FrameOutcome.{FrameOutcome}
use Rattle.cobs.specs.declared.stream.FrameOutcome.TheVariants as frames

-- the `Outcome` that a `FrameOutcome` of the code means; the bytes of a message are the bytes of its vector
abbrev pub outcome_in : FrameOutcome → Outcome
outcome_in (frames.Message message) = Message message.items
outcome_in (frames.Broken count) = Broken count
outcome_in frames.TooLong = TooLong

-- the `Outcome`s that several `FrameOutcome`s mean, in order
abbrev pub outcomes_in : List FrameOutcome → List Outcome
outcomes_in found = map outcome_in found

-- the messages that some vectors contain, one message in each vector
abbrev pub messages_in : List (Vec ℕ) → List (List ℕ)
messages_in vectors = map (λ vector. vector.items) vectors

-- the bytes are a stream of the messages: for each message, in order, its encoded frame and then a zero
pub record AreFrames (messages : List (List ℕ)) (bytes : List ℕ) : Type 0 where
  pub frames : List (List ℕ)
  pub each : AllZip IsEncodedFrame frames messages
  pub joined : bytes ≡ flat_map (λ frame. frame ++ 0 ∷ []) frames

-- a number of bytes that is enough for the frames of the messages and a zero after each frame; it depends only on the
-- messages' lengths
abbrev pub room_for_frames : List (List ℕ) → ℕ
room_for_frames messages = sum_by (λ message. max_encoded_len (length message) + 1) messages
