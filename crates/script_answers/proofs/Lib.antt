pub mod ResultLemmas
pub mod MaskLemmas
pub mod AppendLemmas
