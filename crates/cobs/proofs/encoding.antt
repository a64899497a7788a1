-- The encoders: the open block, windows, and the room that a frame takes.
pub mod OpenLemmas
pub mod OpenedLemmas
pub mod OpenLenLemmas
pub mod ReachLemmas
pub mod AfterLemmas
pub mod RoomLemmas
pub mod TakingLemmas
pub mod ByteLemmas
