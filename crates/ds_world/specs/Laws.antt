-- What holds after events and their outcomes, for an account that fitted the world before them.
use Rattle.std.specs.Prelude.{List, ◌++◌}
use Rattle.ds_replica.specs.declared.event.Event.{Event}
use Rattle.ds_replica.specs.declared.outcome.Outcome.{Outcome}
use Rattle.ds_replica.specs.Known.{Account, extended_all}
use Rattle.ds_world.specs.World.{WorldRecord}
use Rattle.ds_world.specs.Account.{IsFor, Agrees, CatchesUp, KeepsUp, NamesNewest, NothingClashes, NothingStops}
use Rattle.ds_world.specs.Account.{NothingBelowFloors, FloorsStand, StayItems, StaysWhole}
use Rattle.ds_world.specs.Messages.{SnapshotsAreWhole, SincesAreTurns, SinceMessagesExtend}
use Rattle.ds_world.specs.Messages.{PagesAreTurns, ChecksAreTurns, AllChecksAreWhole}
use Rattle.ds_world.specs.Pages.{AllPagesAreWhole}
use Rattle.ds_world.specs.Told.{AreTold}

-- Whether these events with these outcomes, in any number of runs, led to this value from one that the account
-- fitted. With no events, the account fits this value itself.
pub record CameSince (known : Account) (told : List (Event × Outcome)) (value : WorldRecord) : Type 0 where
  pub first : WorldRecord
  pub fits : IsFor known first
  pub told_so : AreTold first told value

-- The laws for such a value: about the account that the events extend, about the events, and about the messages.
pub record Laws (known : Account) (told : List (Event × Outcome)) (new : WorldRecord) : Type 0 where
  pub came : CameSince known told new
  pub account : IsFor (extended_all known told) new
  pub agree : Agrees (extended_all known told) new
  pub catch_up : CatchesUp (extended_all known told) new
  pub keep_up : KeepsUp (extended_all known told) new
  pub newest : NamesNewest (extended_all known told) new
  pub clashes : NothingClashes (extended_all known told) new
  pub stops : NothingStops known told
  pub floors : NothingBelowFloors (extended_all known told) new
  pub floors_stand : FloorsStand known told new
  pub items : StayItems known told
  pub whole : StaysWhole known told
  pub snapshots : SnapshotsAreWhole known told new.messages
  pub since_turns : SincesAreTurns known told new.messages
  pub sinces : SinceMessagesExtend known told new.messages
  pub pages : PagesAreTurns known told new.messages
  pub all_pages : AllPagesAreWhole known told new.messages
  pub checks : ChecksAreTurns known told
  pub all_checks : AllChecksAreWhole known told

-- Whether, after the events, the laws hold for everything that happened since any account fitted: these events, and all
-- those before them. So pages and checks may be read in any number of runs.
abbrev pub LawsHold : WorldRecord → List (Event × Outcome) → WorldRecord → Type 0
LawsHold old events new =
    (known : Account) (before : List (Event × Outcome)) → CameSince known before old → Laws known (before ++ events) new
