pub mod NewlineLemmas
pub mod LinesLemmas
pub mod CallLemmas
pub mod LeftLemmas
pub mod InputLemmas
