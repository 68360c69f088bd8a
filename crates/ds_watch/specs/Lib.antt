pub mod Followed
pub mod Watching
pub mod Mask
pub mod MaskBits
pub mod Masks
