-- A capture of messages, in the format of libpcap, with the lowest byte of each number first.
use Rattle.std.specs.Prelude.{ℕ, ◌*◌, ◌/◌, ◌%◌, ◌^◌, List, [], ◌∷◌, ◌++◌, length, take}
use Rattle.std.specs.Int.{to_le_bytes, w32}

-- the lowest 32 bits of a number, in four bytes, the lowest byte first
abbrev pub word : ℕ → List ℕ
word n = to_le_bytes w32 (n % 2 ^ 32)

-- the header of a capture file: the number that marks the format; the format's version, 2.4; the time zone, UTC; the
-- accuracy of the times, which is always given as 0; the greatest number of captured bytes of a packet, 2 ^ 18; and the
-- type of the packets' contents, 147, which is free for private use
abbrev pub capture_head : List ℕ
capture_head = 0xD4 ∷ 0xC3 ∷ 0xB2 ∷ 0xA1 ∷ 2 ∷ 0 ∷ 4 ∷ 0 ∷ 0 ∷ 0 ∷ 0 ∷ 0 ∷ 0 ∷ 0 ∷ 0 ∷ 0 ∷ 0 ∷ 0 ∷ 4 ∷ 0 ∷ 147 ∷ 0 ∷ 0 ∷ 0 ∷ []

-- the header of a packet, for a time in milliseconds, which the format counts from 1970: this time in seconds and
-- microseconds, and then the number of captured bytes and the number of sent bytes
abbrev pub packet_head : ℕ → (captured sent : ℕ) → List ℕ
packet_head time captured sent = word (time / 1000) ++ word (time % 1000 * 1000) ++ word captured ++ word sent

-- the bytes of a message that a capture has
abbrev pub captured_of : List ℕ → List ℕ
captured_of message = take (2 ^ 18) message

-- a message as a packet: its header, which has the length of the whole message, and the captured bytes
abbrev pub packet : ℕ → List ℕ → List ℕ
packet time message = packet_head time (length (captured_of message)) (length message) ++ captured_of message
