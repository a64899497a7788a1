pub mod Memory
pub mod Lines
pub use Rattle.cobs.specs.Stream
