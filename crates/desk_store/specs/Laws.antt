-- The laws of maps that follow a store, and of passes over time.
use Rattle.std.specs.Prelude.{◌≡◌}
use Rattle.desk_rule.specs.declared.view.View.{View}
use Rattle.desk.specs.declared.pass.Sight.{Ghosts}
use Rattle.desk.specs.Calls.{next_place}
use Rattle.desk.specs.Pass.{Pass}
use Rattle.ds_machine.specs.declared.command.Command.{Command}
use Rattle.ds_machine.specs.declared.reply.Reply.{Reply}
use Rattle.rs_store.specs.declared.call.RsCommand.{RsCommand}
use Rattle.rs_store.specs.declared.call.RsReply.{RsReply}
use Rattle.desk_store.specs.Later.{MadeSeesMore, SeenMoreAgain, SeesMoreByCalls, SeesMoreByLooks, SeesMoreByNotes}
use Rattle.desk_store.specs.MapLaws.{ChecksFit, FollowsAlone, FollowsCheck, FollowsFirst, FollowsOn, TellsOthers, TellsOwn}
use Rattle.desk_store.specs.PairLater.{PairSeesMoreByCalls, PairSeesMoreByLooks, PairSeesMoreByNotes}
use Rattle.desk_store.specs.PairRecord.{BoxedPair, pair_record}
use Rattle.desk_store.specs.Record.{Boxed, IsInTurns, pass_record, place_after}

-- The laws of a map that follows a store.
pub record FollowersFollow : Type 0 where
  -- over others' calls
  pub on : FollowsOn
  pub alone : FollowsAlone
  -- after the subscriber's own calls
  pub first : FollowsFirst
  pub check : FollowsCheck
  -- what the stamp of a Check says
  pub others : TellsOthers
  pub own : TellsOwn
  -- what the map refuses
  pub fit : ChecksFit

-- The laws of a pass at a store's desk.
pub record SeesMore {Z : Type 0} {G : Ghosts (View (Boxed Z) Command Reply)} (p : Pass (Boxed Z) Command Reply G) : Type 0 where
  -- nothing makes the pass forget
  pub calls : SeesMoreByCalls p
  pub looks : SeesMoreByLooks p
  pub notes : SeesMoreByNotes p
  -- and so for passes by plain values
  pub made : MadeSeesMore
  pub again : SeenMoreAgain
  -- the history is the turns', and each turn has a place of the desk
  pub turns : IsInTurns (pass_record p)
  pub places : place_after (pass_record p) ≡ next_place p

-- The laws of a pass at a desk of RS and its store.
pub record PairSeesMore {Z : Type 0} {G : Ghosts (View (BoxedPair Z) RsCommand RsReply)} (p : Pass (BoxedPair Z) RsCommand RsReply G)
    : Type 0 where
  -- nothing makes the pass forget
  pub calls : PairSeesMoreByCalls p
  pub looks : PairSeesMoreByLooks p
  pub notes : PairSeesMoreByNotes p
  -- the store's history is the turns', and each turn has a place of the desk
  pub turns : IsInTurns (pair_record p)
  pub places : place_after (pair_record p) ≡ next_place p
