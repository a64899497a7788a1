-- The definitions and the laws at bytes that are written out.
pub mod Examples
