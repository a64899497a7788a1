-- By `fed` of `law_18`, the zero after a frame f returns the length of the frame's message m, since m fits (`held`).
-- `law_18`: Streaming decoders return the message of each frame, and no other message.
use Rattle.cobs_vectors.proofs.doc_laws.end_frame.Goals as goal

pub returns : goal.returns
returns c f m taken frame held = (c.law_18.ensures.fed _ _ f m _ _ _ c.feed.ensures.feeds taken frame held).0
