-- Definitions that only the contracts of private functions use.
pub mod Taking
pub mod Reaches
pub mod FeedsQuietly
pub mod KeptBytes
pub mod Walk
