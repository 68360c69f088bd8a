pub mod CrossingLemmas
mod FreshLemmas
