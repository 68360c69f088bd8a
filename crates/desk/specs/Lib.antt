pub mod Sight
pub mod Tally
pub mod Pass
pub mod Desk
pub mod Calls
pub mod Opening
pub mod Closing
pub mod Free
