-- How a follower's own calls keep its map up.
use Rattle.std.proofs.Common.{ℕ, ◌<◌, List, [], ◌++◌, length, refl, sym, ◌∙◌, subst, append_assoc}
use Rattle.desk_rule.proofs.ListLemmas.{prefix_refl}
use Rattle.history.specs.declared.entry.Entry.{Entry}
use Rattle.history.specs.History.{Run}
use Rattle.history.proofs.RunLemmas.{run_cut}
use Rattle.ds_names.specs.Limits.{most_items}
use Rattle.ds_entry.specs.Under.{under}
use Rattle.ds_entry.specs.declared.item.Item.{Item}
use Rattle.ds_join.specs.ItemTop.{IsTop}
use Rattle.ds_pattern.specs.declared.query.Query.{Query}
use Rattle.ds_pattern.specs.Under.{is_under}
use Rattle.ds_machine.specs.State.{State}
use Rattle.ds_machine.specs.Machine.{Step}
use Rattle.ds_machine.specs.Reached.{IsReached}
use Rattle.ds_machine.specs.Within.{IsWithin}
use Rattle.ds_machine.specs.declared.command.Command.{Command}
use Rattle.ds_machine.specs.declared.command.Command.TheVariants.{Check}
use Rattle.ds_machine.specs.declared.reply.Reply.{Reply}
use Rattle.ds_machine.specs.declared.reply.Reply.TheVariants.{Subscribed, Checked}
use Rattle.ds_machine.proofs.WithinLemmas.{runs_stay_within}
use Rattle.ds_store.specs.Turns.{Answered, commands_of, replies_of}
use Rattle.ds_store.proofs.TurnLemmas.{histories_run}
use Rattle.desk_store.specs.Following.{FollowsStore, IsCurrent}
use Rattle.desk_store.specs.MapLaws.{IsRefreshed}
use Rattle.desk_store.proofs.FollowLemmas.{follows_check, follows_first, stays_reached, tells_own}
use Rattle.desk_store.specs.Called.{MadeCall}
use Rattle.desk_store.specs.Record.{AfterEach, PassRecord}
use Rattle.desk_store.proofs.RecordLemmas.{call_last}
use Rattle.ds_reader.specs.Asked.{subscribe_anew}
use Rattle.desk_store.specs.KeepsUp.{StandsForFront}

module _ (p q : PassRecord) (sub : ℕ) (query : Query) where
  stands_now : (stamp : ℕ) (map : List Item) → AfterEach q q.history (λ t. FollowsStore t sub query stamp map) →
      StandsForFront q sub query stamp map
  stands_now stamp map f = record { front = q.history; begins = prefix_refl q.history; follows = f }

  -- a Subscribe: the empty map follows
  pub subscribed_stands : (stamp owed place : ℕ) → MadeCall p q (subscribe_anew sub query) (Subscribed stamp owed) place →
      StandsForFront q sub query stamp []
  subscribed_stands stamp owed place c = stands_now stamp [] (λ content opened s t at run.
      (let last = call_last p q (subscribe_anew sub query) (Subscribed stamp owed) place c s t run in
      follows_first last.0 t sub query stamp owed (stays_reached (p.history ++ c.between) s last.0 at.reached last.1) last.2.step))

  -- a Check that returned the follower's own stamp, when the map followed
  module _ (stamp after place : ℕ) (items old : List Item) (k : StandsForFront p sub query stamp old)
      (c : MadeCall p q (Check sub most_items) (Checked items stamp after) place) where
    -- the state in which the Check was answered, in which the map followed
    pub record CheckedIn (t : State) : Type 0 where
      pub mid : State
      pub reached : IsReached mid
      pub within : IsWithin mid
      pub follows : FollowsStore mid sub query stamp old
      pub step : Step mid (Check sub most_items) (Checked items stamp after) t

    pub checked_in : AfterEach q q.history CheckedIn
    checked_in content opened s t at run =
        let last = call_last p q (Check sub most_items) (Checked items stamp after) place c s t run in
        let back = k.begins.0 ++ c.between in
        let es = p.history ++ c.between in
        let parts : Run Answered s (k.front ++ back) last.0 =
        subst (λ (l : List (Entry Command Reply)). Run Answered s l last.0) (append_assoc k.front k.begins.0 c.between)
        (subst (λ (l : List (Entry Command Reply)). Run Answered s (l ++ c.between) last.0) (sym k.begins.1) last.1) in
        let cut = run_cut Answered s last.0 k.front back parts in
        let was = stays_reached k.front s cut.0 at.reached cut.1 in
        let followed = k.follows content (sym c.made.same_opening ∙ opened) s cut.0 at cut.1 in
        record {
          mid = last.0;
          reached = stays_reached es s last.0 at.reached last.1;
          within = runs_stay_within s last.0 (commands_of es) (replies_of es) at.within (histories_run es s last.0 last.1);
          follows = tells_own back cut.0 last.0 t sub query stamp most_items stamp after items old was followed cut.2 last.2.step refl;
          step = last.2.step;
        }

    module _ (new : List Item) (top : IsTop new (old ++ under (is_under query) items)) where
      refreshed : AfterEach q q.history (λ t. IsRefreshed t sub query most_items after items new)
      refreshed content opened s t at run =
          let c = checked_in content opened s t at run in
          follows_check c.mid t sub query stamp most_items stamp after items old new c.reached c.follows c.step top

      pub checked_stands : StandsForFront q sub query after new
      checked_stands = stands_now after new (λ content opened s t at run. (refreshed content opened s t at run).follows)

      pub checked_current : length items < most_items → AfterEach q q.history (λ t. IsCurrent t query new)
      checked_current few content opened s t at run = (refreshed content opened s t at run).current few
