pub mod Under
pub mod Patterns
pub mod Narrow
