pub mod CutLemmas
pub mod NewsLemmas
pub mod AboutLemmas
pub mod LabelLemmas
pub mod TableRunLemmas
pub mod RightLemmas
pub mod WrongLemmas
pub mod Kept
pub mod NumberLemmas
pub mod BringLemmas
pub mod AccountLemmas
pub mod SingleLemmas
pub mod ActLemmas
pub mod WrittenLemmas
pub mod EventLemmas
pub mod LawLemmas
pub mod OlderLemmas
pub mod ApartLemmas
pub mod AheadLemmas
pub mod ToldLemmas
pub mod TrackLemmas
pub mod QueryLemmas
pub mod RecoveryLemmas
pub mod RecoveryPremiseLemmas
pub mod StartLemmas
mod AskLemmas
mod ServeLemmas
mod WriteLemmas
mod TurnLemmas
mod BeginLemmas
mod RunLemmas
