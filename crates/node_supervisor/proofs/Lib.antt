pub mod TellLemmas
pub mod MoveLemmas
pub mod RenewalLemmas
