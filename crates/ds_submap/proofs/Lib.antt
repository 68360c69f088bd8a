pub mod TakeLemmas
pub mod MapLemmas
pub mod EntryLemmas
