-- The outcomes that are messages.
use Rattle.std.specs.Prelude.{List, [], ◌∷◌}
use Rattle.cobs.specs.Stream.{Outcome, Message, Broken, TooLong}

-- the outcomes that are messages, in order
abbrev pub messages_of : List Outcome → List Outcome
messages_of [] = []
messages_of (Message message ∷ outcomes) = Message message ∷ messages_of outcomes
messages_of (Broken count ∷ outcomes) = messages_of outcomes
messages_of (TooLong ∷ outcomes) = messages_of outcomes
