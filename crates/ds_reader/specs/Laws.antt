-- The laws that let a reader conclude that nothing is left out.
use Rattle.ds_replica.specs.WholeLaws.{FeedsGrow}
use Rattle.ds_replica.specs.TurnLaws.{ChecksGrow, SincesGrow, PagesGrow, FewerReachTheEnd, CheckedIsWhole, PagedIsWhole}
use Rattle.ds_machine.specs.Effect.{StepsGoOn, RunsGoOn, RunsStayReached, GoesOnSame, GoesOnLater, HeldIsTop}
use Rattle.ds_machine.specs.SubscriptionLaws.{StampTells, SubscribedLeaves, CheckedLeaves}
use Rattle.ds_machine.specs.Says.{RefusedSays, CheckedSays, JournaledSays, PagedSays}
use Rattle.ds_replica.specs.Growth.{NewsAreNew, LaterIsFront}

-- The laws of turns and of what is whole, of how a store grows and what it holds, and of what its replies say.
pub record ReaderLaws : Type 0 where
  pub feeds : FeedsGrow
  pub checks : ChecksGrow
  pub sinces : SincesGrow
  pub pages : PagesGrow
  pub ends : FewerReachTheEnd
  pub checked_whole : CheckedIsWhole
  pub paged_whole : PagedIsWhole
  pub step : StepsGoOn
  pub run : RunsGoOn
  pub same : GoesOnSame
  pub later : GoesOnLater
  pub held : HeldIsTop
  pub news : NewsAreNew
  pub front : LaterIsFront
  pub stay : RunsStayReached
  pub tells : StampTells
  pub subscribe_leaves : SubscribedLeaves
  pub check_leaves : CheckedLeaves
  pub refused : RefusedSays
  pub checked : CheckedSays
  pub journaled : JournaledSays
  pub paged : PagedSays
