pub mod Verifying
pub mod Upgrading
pub mod Telling
