pub mod Asked
pub mod News
pub mod Following
pub mod Submitting
pub mod Laws
