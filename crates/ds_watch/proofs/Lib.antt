pub mod PlaceLemmas
pub mod MaskLemmas
pub mod PaddedLemmas
pub mod StampLemmas
pub mod CrossingLemmas
