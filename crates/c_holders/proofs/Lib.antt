pub mod MapLemmas
pub mod HandleLemmas
