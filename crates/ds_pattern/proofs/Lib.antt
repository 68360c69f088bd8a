pub mod CrossingLemmas
pub mod LookLemmas
pub mod NarrowLemmas
pub mod PrintableLemmas
pub mod RegexLemmas
pub mod StarLemmas
