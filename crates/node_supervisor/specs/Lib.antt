pub mod Moves
pub mod Renewal
pub mod Telling
pub mod Laws
