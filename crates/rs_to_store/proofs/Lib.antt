pub mod FollowLemmas
pub mod SubmitLemmas
pub mod ListLemmas
