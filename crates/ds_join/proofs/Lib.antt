pub mod MapLemmas
pub mod NextLemmas
pub mod ItemTopLemmas
pub mod ItemExistLemmas
