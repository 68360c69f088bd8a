pub mod LeftMarkLemmas
pub mod RowMarkLemmas
pub mod MarkLemmas
pub mod FloorMarkLemmas
pub mod PutLemmas
pub mod NamedLemmas
pub mod IndexedLemmas
pub mod HolderLemmas
