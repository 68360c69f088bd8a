pub mod FollowLemmas
pub mod NoteLemmas
pub mod RenewalLemmas
pub mod AgreeLemmas
pub mod NameLemmas
