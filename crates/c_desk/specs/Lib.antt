pub mod Fresh
pub mod Board
pub mod Calls
pub mod Crossing
