mod ServeLemmas
mod LawLemmas
pub mod CrossingLemmas
