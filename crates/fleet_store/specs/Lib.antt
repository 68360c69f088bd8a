pub mod Taking
pub mod Journal
pub mod Changes
