-- Whole frames: pieces and their outcomes, and each way to decode them.
pub mod OutcomeLemmas
pub mod PieceLemmas
pub mod PieceCuts
pub mod TailLemmas
pub mod HeadLemmas
pub mod OutcomeSteps
pub mod KeptLemmas
pub mod SourceSteps
pub mod VectorSteps
pub mod HeadlineLemmas
pub mod VectorHeadline
pub mod ReadsLemmas
