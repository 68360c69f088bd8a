pub mod NameBlockLemmas
pub mod DecimalLemmas
pub mod OrderLemmas
pub mod WordLemmas
pub mod Tests
