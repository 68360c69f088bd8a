pub mod State
pub mod Texts
pub mod Gathering
pub mod Asking
pub mod Answering
pub mod Reading
pub mod Happening
