pub mod Feed
pub mod Since
pub mod Kept
pub mod Sound
pub mod Page
pub mod Laws
