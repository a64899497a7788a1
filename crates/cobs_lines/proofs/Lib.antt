pub mod MemoryLemmas
pub mod DigitLemmas
