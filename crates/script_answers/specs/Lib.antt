pub mod Reply
pub mod Outcome
pub mod Refusal
pub mod Process
pub mod SettingsLines
pub mod Actions
pub mod Moves
pub mod Appending
