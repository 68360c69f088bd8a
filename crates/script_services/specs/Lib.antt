pub mod Servers
pub mod Services
pub mod Tables
pub mod Kept
pub mod Waiting
