-- Facts about the stream of the frames of several messages, for `write_frames`, `encode_frames` and `decode_stream`.
-- The main lemma is `AreFrames-outcomes`: a stream that has a frame and a zero for each message has these messages as
-- its outcomes. It follows by `StreamLemmas`, one message at a time.
use Rattle.std.proofs.Common.{◌≡◌, ℕ, ◌+◌, ◌<◌, ◌≤◌, List, [], ◌∷◌, ◌++◌, length, take, set, map, All, arith, append_assoc, length-append, length-take, get_or}
use Rattle.std.specs.List.{AllZip, flat_map}
use Rattle.std.proofs.lemmas.List.{take-map, flat_map_more}
use Rattle.std.proofs.lemmas.List.Elements.{AllZip-push, All-nil, All-head, All-tail}
use Rattle.std.proofs.lemmas.List.Sums.{sum_by-take-le}
use Rattle.std.proofs.Math.Seq.{take-append-add}
use Rattle.std.specs.Global.{Vec}
use Rattle.std.proofs.lemmas.Grind.{common_steps}
use borrow.Rule.Slice.PartMut.{put_mid}
use Rattle.cobs.specs.Grammar.{IsEncodedFrame}
use Rattle.cobs.specs.Length.{max_encoded_len}
use Rattle.cobs.specs.Stream.{Message, stream_outcomes}
use Rattle.cobs.specs.Messages.{AreFrames, messages_in, room_for_frames}
use Rattle.cobs.proofs.format.FrameLemmas.{frame_some, frame_nonzero}
use Rattle.cobs.proofs.decoding.OutcomeLemmas.{outcome_frame}
use Rattle.cobs.proofs.format.StreamLemmas.{stream_outcomes-front, stream_outcomes-no_zero}

-- ONE MORE MESSAGE

-- if a stream has the frames of some messages, and one more message's frame and a zero are appended, it has the frames
-- of all these messages
pub AreFrames-push : (messages : List (List ℕ)) (bytes frame message : List ℕ) → AreFrames messages bytes → IsEncodedFrame frame message
    → AreFrames (messages ++ message ∷ []) (bytes ++ frame ++ 0 ∷ [])
AreFrames-push messages bytes frame message h encoded = record {
  frames = h.frames ++ frame ∷ [];
  each = grind (arith, AllZip-push);
  joined = cc (append_assoc bytes frame (0 ∷ []), flat_map_more (λ f. f ++ 0 ∷ []) [] h.frames frame);
}

-- the messages in the first i + 1 vectors are those in the first i vectors, and the message in vector i
pub messages_in-more : (vectors : List (Vec ℕ)) (i : ℕ) (d : Vec ℕ) → i < length vectors
    → messages_in (take (i + 1) vectors) ≡ messages_in (take i vectors) ++ (get_or vectors i d).items ∷ []
messages_in-more vectors i d within = grind (arith, common_steps)

-- THE ROOM

-- some of the messages take no more room than all of them
pub room-some : (vectors : List (Vec ℕ)) (i : ℕ) → room_for_frames (messages_in (take i vectors)) ≤ room_for_frames (messages_in vectors)
room-some vectors i = rw take-map at (sum_by-take-le (λ m. max_encoded_len (length m) + 1) (messages_in vectors) i)

-- for vector i, the room grows by the length of the longest frame of a message as long as its message, and by one byte
-- for the zero
pub room-step : (vectors : List (Vec ℕ)) (i : ℕ) (vector : Vec ℕ) → i < length vectors → vector ≡ get_or vectors i vector
    → room_for_frames (messages_in (take (i + 1) vectors)) ≡ room_for_frames (messages_in (take i vectors)) + (max_encoded_len (length vector.items) + 1)
room-step vectors i vector within is = grind (arith, common_steps)

-- WHERE THE FRAMES ARE WRITTEN

-- The list `new`, which begins with a frame of `len` bytes, was put into `dest` at index `end`, and a zero was set
-- after the frame. The result begins with the first `end` bytes of `dest`, the frame and the zero.
pub written : (dest new behind : List ℕ) (end len : ℕ) → end ≤ length dest → len < length new
    → take (end + (len + 1)) (set (take end dest ++ (new ++ behind)) (end + len) 0) ≡ take end dest ++ take len new ++ 0 ∷ []
written dest new behind end len within room =
    grind (arith, common_steps, take-append-add)

-- after `new` is put into `dest` at index `end`, the list has at least `end + length new` bytes
pub length-written : (dest new : List ℕ) (end part : ℕ) → end ≤ length dest → end + length new ≤ length (put_mid end part dest new)
length-written dest new end part within = grind (arith, length-append, length-take)

-- WHAT COMES BACK

-- the outcomes of the frames, with a zero after each, are the messages: by induction on the frames
outcomes_of_frames : (frames messages : List (List ℕ)) (n : ℕ) → AllZip IsEncodedFrame frames messages → All (λ m. length m ≤ n) messages
    → stream_outcomes (flat_map (λ f. f ++ 0 ∷ []) frames) n ≡ map Message messages
outcomes_of_frames [] [] n h fits = stream_outcomes-no_zero [] n (All-nil _)
outcomes_of_frames [] (m ∷ messages) n h fits = absurd h
outcomes_of_frames (f ∷ frames) [] n h fits = absurd h
outcomes_of_frames (f ∷ frames) (m ∷ messages) n h fits =
    let r = h.0.reads in
    -- `first` says that the outcome of the first frame comes first, and `rest` has the outcomes of the other frames
    let rest = outcomes_of_frames frames messages n h.1 (All-tail (λ m. length m ≤ n) m messages fits) in
    let more = flat_map (λ f. f ++ 0 ∷ []) frames in
    let first = stream_outcomes-front f more n (frame_some f m r) (frame_nonzero f m r) in
    cc (append_assoc f (0 ∷ []) more, outcome_frame f m n r (grind (arith, All-head)))

-- the main lemma: if each message fits a buffer of n bytes, the outcomes of the stream of their frames are exactly
-- these messages
pub AreFrames-outcomes : (messages : List (List ℕ)) (bytes : List ℕ) (n : ℕ) → AreFrames messages bytes → All (λ m. length m ≤ n) messages → stream_outcomes bytes n ≡ map Message messages
AreFrames-outcomes messages bytes n h fits = grind (arith, outcomes_of_frames)
