pub mod Request
pub mod Asked
pub mod Lines
pub mod Pieces
pub mod Answer
