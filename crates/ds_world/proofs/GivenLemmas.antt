-- What events with their outcomes say of checks, and of deliveries that stop.
use Rattle.std.proofs.Common.{◌≡◌, ℕ, true, List, [], ◌∷◌, ◌++◌, Some, refl, ap, sym, ◌∙◌, subst}
use Rattle.ds_pattern.specs.Under.{is_under}
use Rattle.ds_replica.specs.Sent.{given}
use Rattle.ds_replica.specs.Checked.{CheckTurn, IsCheckTurn}
use Rattle.ds_machine.specs.Subscription.{Subscription}
use Rattle.ds_machine.specs.State.{subscription_at}
use Rattle.ds_machine.specs.declared.command.Command.{Command}
use Rattle.ds_machine.specs.declared.command.Command.TheVariants.{Subscribe, Check}
use Rattle.ds_machine.specs.declared.reply.Reply.TheVariants.{Subscribed}
use Rattle.ds_replica.specs.declared.event.Side.{Side}
use Rattle.ds_replica.specs.declared.event.Event.{Event}
use Rattle.ds_replica.specs.declared.event.Event.TheVariants.{Ask, Deliver}
use Rattle.ds_replica.specs.declared.outcome.Outcome.{Outcome}
use Rattle.ds_replica.specs.declared.outcome.Outcome.TheVariants.{Replied, Made, Stopped}
use Rattle.ds_replica.specs.World.{World}
use Rattle.ds_replica.specs.Happens.{HappenAll}
use Rattle.ds_replica.specs.Known.{Account, store_of, extended, extended_all}
use Rattle.ds_replica.specs.Fits.{Fits}
use Rattle.ds_replica.specs.Messages.{IsAsked, account_after, feed_of, IsMessage}
use Rattle.ds_replica.proofs.EventLemmas.{events_fit}
use Rattle.ds_replica.proofs.HappenLemmas.{happen_split}
use Rattle.ds_replica.proofs.MessageLemmas.{check_is_turn}
use Rattle.ds_replica.proofs.CheckLemmas.{checks_are_whole}
use Rattle.ds_replica.proofs.ClashLemmas.{nothing_stops}
use Rattle.ds_world.specs.Account.{NothingStops}
use Rattle.ds_world.specs.Messages.{WasGiven, ChecksAreTurns, AllChecksAreWhole}

extended_append : (xs ys : List (Event × Outcome)) (account : Account) →
    extended_all account (xs ++ ys) ≡ extended_all (extended_all account xs) ys
extended_append [] ys account = refl
extended_append (x ∷ xs) ys account = extended_append xs ys (extended account x.0 x.1)

-- the account now is the one after the command
pub now_after : (account : Account) (events : List (Event × Outcome)) (side : Side) (command : Command) (k : ℕ)
    (g : WasGiven events side command k)
    → account_after (extended_all account g.before) side command k g.since ≡ extended_all account events
now_after account events side command k g =
    sym (extended_append g.before ((Ask side command, Made k) ∷ g.since) account) ∙ ap (extended_all account) g.all

module _ (account : Account) (w late : World) (all : List (Event × Outcome)) (fits : Fits account w) (happen : HappenAll w all late) where
  module _ (side : Side) (command : Command) (k : ℕ) (g : WasGiven all side command k) where
    parts : (mid : World) × HappenAll w g.before mid × HappenAll mid ((Ask side command, Made k) ∷ g.since) late
    parts =
        happen_split g.before ((Ask side command, Made k) ∷ g.since) w late
        (subst (λ (l : List (Event × Outcome)). HappenAll w l late) (sym g.all) happen)

    asked : IsAsked (extended_all account g.before) parts.0 side command k g.since late
    asked = record { fits = events_fit account w parts.0 g.before fits parts.1; happen = parts.2; stays = g.stays }

    now_is : account_after (extended_all account g.before) side command k g.since ≡ extended_all account all
    now_is = now_after account all side command k g

  pub checks : ChecksAreTurns account all
  checks side sub max k early g front =
      subst
      (λ (now : Account). (seer : Subscription) × (subscription_at (store_of (extended_all account g.before) side).state sub ≡ Some seer) ×
      (t : CheckTurn) × (t.max ≡ max)
      × IsCheckTurn early (feed_of now side) (is_under seer.query) seer.shown t × IsMessage now k (given t.known t.items))
      (now_is side (Check sub max) k g)
      (check_is_turn (extended_all account g.before) (parts side (Check sub max) k g).0 late side sub max k g.since early
      (asked side (Check sub max) k g) front)

  pub stops : NothingStops account all
  stops before since k holder count done fault owed e single contradicts =
      let t =
      happen_split before ((Deliver k holder count, Stopped done fault owed) ∷ since) w late
      (subst (λ (l : List (Event × Outcome)). HappenAll w l late) (sym e) happen) in
      nothing_stops (extended_all account before) t.0 t.2.0 k holder count done fault owed (events_fit account w t.0 before fits t.1) single
      t.2.1 contradicts

  pub all_checks : AllChecksAreWhole account all
  all_checks side sub query max k g few =
      let subscribe : Event × Outcome = (Ask side (Subscribe sub query true g.overwrite), Replied (Subscribed g.stamp g.owed)) in
      let check : Event × Outcome = (Ask side (Check sub max), Made k) in
      let first =
      happen_split g.before (subscribe ∷ (g.between ++ check ∷ g.since)) w late
      (subst (λ (l : List (Event × Outcome)). HappenAll w l late) (sym g.all) happen) in
      let rest = happen_split g.between (check ∷ g.since) first.2.0 late first.2.2 in
      checks_are_whole (extended_all account g.before) first.0 first.2.0 rest.0 rest.2.0 side sub query g.overwrite g.stamp g.owed g.between
      max k (events_fit account w first.0 g.before fits first.1) first.2.1 rest.1 g.stays g.alone rest.2.1 few
