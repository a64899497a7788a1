pub mod Words
pub mod Input
pub mod Text
pub mod Report
pub mod Output
