pub mod ListLemmas
pub mod StateLemmas
pub mod CheckLemmas
pub mod SinceLemmas
pub mod PageLemmas
pub mod StopLemmas
pub mod QuestionLemmas
pub mod UnderLemmas
