pub mod RecordLemmas
pub mod FaultLemmas
pub mod PassLemmas
mod ShownLemmas
mod MapLemmas
pub mod FollowLemmas
mod CountLemmas
pub mod FitLemmas
pub mod MergedLemmas
mod StandLemmas
mod CheckLemmas
pub mod OnlyLemmas
mod GoneLemmas
mod RoomLemmas
pub mod LawLemmas
mod GivingLemmas
mod PageLemmas
mod WholeLemmas
mod BothLemmas
pub mod PartLemmas
pub mod PairPassLemmas
mod LedLemmas
