-- The definitions with which contracts describe types that have private fields.
pub mod Report
pub mod Decoders
pub mod Lending
pub mod Progress
pub mod Encoders
pub mod Reader
