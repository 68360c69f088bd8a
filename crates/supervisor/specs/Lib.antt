pub mod Following
pub mod Telling
pub mod Renewal
pub mod Moves
pub mod Laws
