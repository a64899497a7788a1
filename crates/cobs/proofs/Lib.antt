-- The lemmas of the crate, one folder for each topic. Proofs of functions are in the other folders, and aren't listed.
pub mod bytes
pub mod format
pub mod encoding
pub mod decoding
pub mod streaming
pub mod examples
