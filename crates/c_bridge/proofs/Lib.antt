pub mod RepresentLemmas
pub mod QuestionLemmas
pub mod AnswerLemmas
pub mod GatherLemmas
pub mod NewsLemmas
pub mod OpenLemmas
