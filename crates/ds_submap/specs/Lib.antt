pub mod Map
pub mod Take
pub mod Floors
