-- The format: frames and their blocks, the lengths of frames, the encoded frame of each message, frames for other
-- sentinels, and streams of frames.
pub mod FrameLemmas
pub mod JoinLemmas
pub mod GrammarLemmas
pub mod LengthLemmas
pub mod StreamLemmas
pub mod UniqueLemmas
pub mod EnumerationLemmas
pub mod SentinelLemmas
pub mod KindLemmas
pub mod MessagesLemmas
