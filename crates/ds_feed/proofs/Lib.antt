pub mod FeedLemmas
pub mod LawLemmas
pub mod PageLemmas
