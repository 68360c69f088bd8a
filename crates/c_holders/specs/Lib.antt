pub mod Maps
pub mod Agree
pub mod Handles
