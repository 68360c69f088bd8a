pub mod LinesLemmas
pub mod RunningLemmas
pub mod TextLemmas
pub mod NodeLemmas
pub mod CrossingLemmas
