pub mod JoinLemmas
pub mod TakingLemmas
pub mod ChangeLemmas
pub mod JournalLemmas
