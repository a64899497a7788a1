-- The postconditions of the calls that decode whole frames.
use Rattle.std.specs.Prelude.{◌≡◌, ◌≢◌, ◌≤◌, ◌↔◌, ◌++◌, ℕ, List, length, drop, Some, None}
use Rattle.cobs.specs.Decode.{first_output, in_place, result_in_place, len_through_piece, outcome_result, result_of_sentinel_decode}
use Rattle.cobs.specs.Grammar.{IsCanonical, IsFrame}
use Rattle.cobs.specs.Overwritten.{overwritten}
use Rattle.cobs.specs.Piece.{kept_output}
use Rattle.cobs.specs.Sentinel.{xor_each}
use Rattle.cobs.specs.Stream.{first_piece, head, outcome_of}
use Rattle.cobs_c.specs.Answer.{result_by, head_end}
use Rattle.cobs_c.specs.declared.answer.Answer.{Answer}
use Rattle.cobs_c.specs.declared.answer.TheConstants.{CANONICAL, EMPTY, LONGER, NOT_A_FRAME, TOO_SMALL}

-- `jcobs_decode`: the first piece of the source is decoded to the front of the buffer `message`
pub record Decodes (source message : List ℕ) (result : Answer) (message' : List ℕ) : Type 0 where
  pub none : first_piece source ≡ None → result ≡ record { status = EMPTY; consumed = length source; length = 0 }
  pub some : (p : List ℕ) → first_piece source ≡ Some p
      → result ≡ result_by (len_through_piece source p) (length message) (outcome_result (outcome_of p (length message)))
  pub buffer : message' ≡ overwritten message (first_output source)
  -- a buffer as long as the source is enough
  pub room : length source ≤ length message → result.status ≢ TOO_SMALL

-- `jcobs_decode_with_sentinel`: the bytes before the first sentinel s are decoded to the front of the buffer
pub record DecodesFor (s : ℕ) (source message : List ℕ) (result : Answer) (message' : List ℕ) : Type 0 where
  pub returned : let t = xor_each s source in result ≡ result_by (head_end t) (length message) (result_of_sentinel_decode t (length message))
  pub buffer : message' ≡ overwritten message (kept_output (head (xor_each s source)))

-- `jcobs_decode_in_place`: the bytes before the first zero are decoded to the front of the same buffer
pub record DecodesInPlace (source : List ℕ) (result : Answer) (source' : List ℕ) : Type 0 where
  pub returned : result ≡ result_by (head_end source) (length source) (result_in_place source)
  pub buffer : source' ≡ in_place source

-- `jcobs_decode_in_place_with_sentinel`: the bytes before the first sentinel s are XORed with s, and decoded to the
-- front of the same buffer. The sentinel and the bytes after it are as they were.
pub record DecodesInPlaceFor (s : ℕ) (source : List ℕ) (result : Answer) (source' : List ℕ) : Type 0 where
  pub returned : let t = xor_each s source in result ≡ result_by (head_end t) (length source) (result_in_place t)
  pub buffer : let frame = head (xor_each s source) in source' ≡ overwritten frame (kept_output frame) ++ drop (length frame) source

-- `jcobs_frame_kind`: the number for the kind of these bytes
pub record IsKindOf (bytes : List ℕ) (result : ℕ) : Type 0 where
  pub not_a_frame : (result ≡ NOT_A_FRAME) ↔ ¬ IsFrame bytes
  pub canonical : (result ≡ CANONICAL) ↔ IsCanonical bytes
  pub longer : (result ≡ LONGER) ↔ (IsFrame bytes × ¬ IsCanonical bytes)
