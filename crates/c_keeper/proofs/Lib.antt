mod CountLemmas
mod MoveLemmas
pub mod CrossingLemmas
