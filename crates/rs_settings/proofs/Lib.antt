pub mod ValueLemmas
pub mod TableLemmas
pub mod SharedLemmas
pub mod AscendingLemmas
pub mod ApartLemmas
pub mod FormatLemmas
pub mod PlainLemmas
