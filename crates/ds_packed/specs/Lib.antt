pub mod Names
pub mod Row
pub mod Rows
pub mod First
