pub mod State
pub mod Asking
pub mod Moving
