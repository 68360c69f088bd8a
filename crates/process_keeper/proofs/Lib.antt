pub mod Walking
pub mod SightLemmas
pub mod EventLemmas
pub mod FollowLemmas
pub mod WakingLemmas
pub mod RenewalLemmas
