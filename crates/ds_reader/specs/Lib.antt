pub mod Asked
pub mod Questions
pub mod CaughtUp
pub mod GivesUp
pub mod ReadWhole
pub mod Laws
pub mod Stops
