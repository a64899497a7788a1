pub mod Answer
pub mod Text
pub mod Frames
pub mod Encode
pub mod Decode
pub mod Stream
