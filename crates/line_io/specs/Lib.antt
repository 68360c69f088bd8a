pub mod Lines
pub mod Streams
pub mod Transfer
pub mod Reading
pub mod Pulling
