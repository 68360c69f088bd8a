pub mod Members
pub mod CoversLemmas
pub mod OrderedLemmas
pub mod ItemLemmas
