pub mod KnownLemmas
pub mod AgreeLemmas
pub mod LabelLemmas
pub mod PremiseLemmas
pub mod ReaderLemmas
pub mod StoreRowLemmas
pub mod ReaderRowLemmas
