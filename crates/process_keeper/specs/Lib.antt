pub mod Inputs
pub mod Sight
pub mod Doing
pub mod Following
pub mod Order
pub mod Happening
pub mod Waking
pub mod Renewal
