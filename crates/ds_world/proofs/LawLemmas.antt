-- What holds after events and their outcomes, in one record.
use Rattle.std.proofs.Common.{List, ◌++◌, All}
use Rattle.ds_submap.specs.Map.{IsMap}
use Rattle.ds_machine.specs.Says.{SnappedSays, PagedSays, JournaledSays}
use Rattle.ds_replica.specs.declared.event.Event.{Event}
use Rattle.ds_replica.specs.declared.outcome.Outcome.{Outcome}
use Rattle.ds_replica.specs.Known.{Account}
use Rattle.ds_world.specs.World.{WorldRecord}
use Rattle.ds_world.specs.Laws.{CameSince, Laws, LawsHold}
use Rattle.ds_world.specs.Told.{AreTold}
use Rattle.ds_world.proofs.HeadlineLemmas.{account_fits, agree_after, catch_up_after, keep_up_after, newest_after, clashes_after}
use Rattle.ds_world.proofs.HeadlineLemmas.{floors_after, floors_stand_after, items_stay, stays_whole}
use Rattle.ds_world.proofs.GivenLemmas as given
use Rattle.ds_world.proofs.PageLemmas as pages
use Rattle.ds_world.proofs.ReplyLemmas.{happened, told_on}

module _ (snapped : SnappedSays) (paged : PagedSays) (journaled : JournaledSays) where
  came_so : (known : Account) (told : List (Event × Outcome)) (new : WorldRecord) → CameSince known told new → All IsMap new.maps
      → Laws known told new
  came_so known told new came maps =
      let old = came.first in
      let f = came.fits in
      let so = came.told_so in
      let went = happened told old new f.0 so f.1 in
      record {
        came = came;
        account = account_fits known old new told so f;
        agree = agree_after known old new told so f;
        catch_up = catch_up_after known old new told so f;
        keep_up = keep_up_after known old new told so f;
        newest = newest_after known old new told so f maps;
        clashes = clashes_after known old new told so f;
        stops = given.stops known f.0 went.0 told f.2 went.1;
        floors = floors_after known old new told so f;
        floors_stand = floors_stand_after known old new told so f;
        items = items_stay known old new told so f;
        whole = stays_whole known old new told so f;
        snapshots = pages.snapshots snapped paged journaled known old new told so f;
        since_turns = pages.since_turns_are snapped paged journaled known old new told so f;
        sinces = pages.sinces snapped paged journaled known old new told so f;
        pages = pages.pages_are snapped paged journaled known old new told so f;
        all_pages = pages.all_pages snapped paged journaled known old new told so f;
        checks = given.checks known f.0 went.0 told f.2 went.1;
        all_checks = given.all_checks known f.0 went.0 told f.2 went.1;
      }

  pub laws_hold : (old new : WorldRecord) (events : List (Event × Outcome)) → AreTold old events new → All IsMap new.maps
      → LawsHold old events new
  laws_hold old new events told maps known before came =
      came_so known (before ++ events) new
      (record { first = came.first; fits = came.fits; told_so = told_on before events came.first old new came.told_so told }) maps
