pub mod Stream
pub mod Loss
pub mod Compaction
