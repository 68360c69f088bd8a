pub mod Marked
pub mod Put
pub mod Beside
pub mod Room
pub mod Coded
pub mod Named
pub mod Index
pub mod Indexed
