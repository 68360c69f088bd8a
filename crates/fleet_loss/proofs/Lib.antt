pub mod LossLemmas
pub mod CompactionLemmas
