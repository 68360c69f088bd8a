pub mod Holding
pub mod Agree
pub mod NoOlder
pub mod Premises
pub mod Readers
pub mod ReaderPremises
