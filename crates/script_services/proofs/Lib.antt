pub mod ListLemmas
pub mod ActionLemmas
pub mod AskLemmas
pub mod MoveLemmas
pub mod LeadLemmas
