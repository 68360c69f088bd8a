pub mod Tasks
pub mod Opening
pub mod Keeping
pub mod Noting
pub mod Reading
pub mod Barred
pub mod Renewing
pub mod Laws
