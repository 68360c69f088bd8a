pub mod ItemsLemmas
pub mod AskedLemmas
pub mod GivingLemmas
