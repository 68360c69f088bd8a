-- Maps that continue to follow a store.
use Rattle.std.proofs.Common.{◌≡◌, ◌⊎◌, ℕ, ◌<◌, Bool, true, false, List, [], ◌++◌, length, take, Option, Some, None, Contains, refl, sym}
use Rattle.std.proofs.Common.{◌∙◌, subst, inl, inr, arith}
use Rattle.std.specs.List.{list_any}
use Rattle.std.proofs.lemmas.List.Elements.{Contains-append_left, Contains-append_cases}
use Rattle.history.specs.declared.entry.Entry.{Entry}
use Rattle.history.specs.History.{Run}
use Rattle.ds_entry.specs.Item.{passes}
use Rattle.ds_entry.specs.ItemCovers.{covers}
use Rattle.ds_entry.specs.Under.{under}
use Rattle.ds_entry.specs.declared.item.Item.{Item}
use Rattle.ds_entry.proofs.Members.{Contains-nil, Contains-filter, Contains-from_filter, Contains-from_take, Contains-from_list_any}
use Rattle.ds_entry.proofs.Members.{Contains-from_map}
use Rattle.ds_feed.specs.Feed.{Feed}
use Rattle.ds_join.specs.ItemTop.{IsTop, IsPartOf, tops}
use Rattle.ds_pattern.specs.declared.query.Query.{Query}
use Rattle.ds_pattern.specs.Under.{is_under}
use Rattle.ds_machine.specs.Subscription.{Subscription, is_unseen}
use Rattle.ds_machine.specs.State.{State, held, unseen, subscription_at}
use Rattle.ds_machine.specs.Machine.{Step}
use Rattle.ds_machine.specs.Reached.{IsReached}
use Rattle.ds_machine.specs.Effect.{GoesOn, uses}
use Rattle.ds_machine.specs.SubscriptionLaws.{HasNewStamp, IsCheckedOn}
use Rattle.ds_machine.specs.declared.command.Command.{Command}
use Rattle.ds_machine.specs.declared.command.Command.TheVariants.{Check}
use Rattle.ds_machine.specs.declared.reply.Reply.{Reply}
use Rattle.ds_machine.specs.declared.reply.Reply.TheVariants.{Checked}
use Rattle.ds_machine.proofs.KnownLemmas.{runs_go_on, runs_stay_reached}
use Rattle.ds_machine.proofs.PlaceLemmas.{checked_leaves, run_keeps, run_stamps, subscribed_leaves}
use Rattle.ds_machine.proofs.ReachedLemmas.{held_is_top}
use Rattle.ds_store.specs.Turns.{Answered, commands_of, replies_of}
use Rattle.ds_store.proofs.TurnLemmas.{histories_run}
use Rattle.desk_store.specs.Following.{FollowsStore, IsTakenOver}
use Rattle.desk_store.specs.MapLaws.{FollowsAlone, FollowsCheck, FollowsFirst, FollowsOn, IsRefreshed, TellsOthers, TellsOwn}
use Rattle.desk_store.proofs.MapLemmas.{covers_held, new_given, new_has, new_is_all}
use Rattle.desk_store.proofs.ShownLemmas.{few_are_all, none_covers_news, shown_for, under_part}

-- ---- over others' calls

pub stays_reached : (es : List (Entry Command Reply)) (s t : State) → IsReached s → Run Answered s es t → IsReached t
stays_reached es s t r run = runs_stay_reached s t (commands_of es) (replies_of es) r (histories_run es s t run)

pub later : (es : List (Entry Command Reply)) (s t : State) → IsReached s → Run Answered s es t → GoesOn s t
later es s t r run = runs_go_on s t (commands_of es) (replies_of es) r (histories_run es s t run)

-- a later store, in which the subscription is unchanged
module _ (s t : State) (sub : ℕ) (query : Query) (stamp : ℕ) (map : List Item) (r : IsReached s) (q : IsReached t) (goes : GoesOn s t)
    (same : subscription_at t sub ≡ subscription_at s sub)
    (f : FollowsStore s sub query stamp map) where
  accepted_stays : IsPartOf s.feed.accepted t.feed.accepted
  accepted_stays i h = subst (λ (l : List Item). Contains l i) (sym goes.grown.2) (Contains-append_left s.feed.accepted goes.grown.0 i h)

  -- what is held then and was shown was held before: nothing new is covered by what was shown
  was_held : (i j : Item) → Contains (held t) i → Contains f.seer.shown j → covers j i ≡ true → Contains (held s) i
  was_held i j h k c = by_age (Contains-append_cases s.feed.accepted goes.grown.0 i
      (subst (λ (l : List Item). Contains l i) goes.grown.2 ((held_is_top t q).among i h)))
    where
      by_age : Contains s.feed.accepted i ⊎ Contains goes.grown.0 i → Contains (held s) i
      by_age (inl old) =
          let e = (held_is_top s r).greatest i old in
          let there = accepted_stays e.0 ((held_is_top s r).among e.0 e.1) in
          subst (λ (x : Item). Contains (held s) x)
          (sym (covers_held t.feed.accepted (held t) q.exact (held_is_top t q) i e.0 h there e.2)) e.1
      by_age (inr new) = absurd (none_covers_news s.feed.accepted goes.grown.0 goes.grown.1 i j new
          ((r.served sub f.seer f.here).shown j k) c)

  follows_as_it_was : FollowsStore t sub query stamp map
  follows_as_it_was = record {
    seer = f.seer;
    here = same ∙ f.here;
    query_is = f.query_is;
    stamp_is = f.stamp_is;
    has = λ i h u e. (let d = shown_for query f.seer.shown i u e in f.has i (was_held i d.0 h d.1 d.2) u e);
    given = λ i h. under_part query s.feed.accepted t.feed.accepted accepted_stays i (f.given i h);
  }

taken_over : (s t : State) (sub : ℕ) (query : Query) (stamp : ℕ) (map : List Item) → IsReached s → FollowsStore s sub query stamp map →
    (o : Option Subscription) →
    subscription_at t sub ≡ o → HasNewStamp s o → IsTakenOver t sub stamp
taken_over s t sub query stamp map r f None e h = absurd h
taken_over s t sub query stamp map r f (Some seer) e h =
    record { seer = seer; here = e; above = (let given = (r.served sub f.seer f.here).stamp in omega (arith, given, f.stamp_is, h)) }

pub follows_on : FollowsOn
follows_on es s t sub query stamp map r run f = elim (run_stamps s t (commands_of es) (replies_of es) sub r (histories_run es s t run)) [
  | inl same ↦ inl (follows_as_it_was s t sub query stamp map r (stays_reached es s t r run) (later es s t r run) same f)
  | inr new ↦ inr (taken_over s t sub query stamp map r f (subscription_at t sub) refl new)
]

-- some call was for the subscription, or none
used_or_not : (sub : ℕ) (es : List (Entry Command Reply)) →
    ((e : Entry Command Reply) × Contains es e × (uses sub e.command ≡ true)) ⊎ (list_any (uses sub) (commands_of es) ≡ false)
used_or_not sub es = by_test (list_any (uses sub) (commands_of es)) refl
  where
    by_test : (b : Bool) → list_any (uses sub) (commands_of es) ≡ b →
        ((e : Entry Command Reply) × Contains es e × (uses sub e.command ≡ true)) ⊎ (list_any (uses sub) (commands_of es) ≡ false)
    by_test false e = inr e
    by_test true e =
        let c = Contains-from_list_any (uses sub) (commands_of es) e in
        let x = Contains-from_map (λ (y : Entry Command Reply). y.command) es c.0 c.1 in
        inl (x.0, x.1, subst (λ (y : Command). uses sub y ≡ true) (sym x.2) c.2)

follows_unused : (es : List (Entry Command Reply)) (s t : State) (sub : ℕ) (query : Query) (stamp : ℕ) (map : List Item) → IsReached s →
    Run Answered s es t →
    list_any (uses sub) (commands_of es) ≡ false → FollowsStore s sub query stamp map → FollowsStore t sub query stamp map
follows_unused es s t sub query stamp map r run none f =
    follows_as_it_was s t sub query stamp map r (stays_reached es s t r run) (later es s t r run)
    (run_keeps s t (commands_of es) (replies_of es) sub r (histories_run es s t run) none) f

pub follows_alone : FollowsAlone
follows_alone es s t sub query stamp map r run others f = elim (used_or_not sub es) [
  | inl u ↦ absurd (let no : true ≡ false = sym u.2 ∙ others u.0 u.1 in cc)
  | inr none ↦ follows_unused es s t sub query stamp map r run none f
]

-- ---- the subscriber's own calls
pub follows_first : FollowsFirst
follows_first s t sub query stamp owed r step =
    let placed = subscribed_leaves s t sub query true true stamp owed r step in
    record {
      seer = record { query = query; stamp = stamp; shown = [] };
      here = placed.here;
      query_is = refl;
      stamp_is = refl;
      has = λ i h u e. (let d = shown_for query [] i u e in absurd (Contains-nil d.0 d.1));
      given = λ i h. absurd (Contains-nil i h);
    }

-- a check of a subscription with this record
module _ (s t : State) (sub max before after : ℕ) (items old new : List Item) (seer : Subscription) (r : IsReached s)
    (has : (i : Item) → Contains (held s) i → passes (is_under seer.query) i ≡ true → is_unseen seer.query seer.shown i ≡ false →
    Contains old i)
    (given : IsPartOf old (under (is_under seer.query) s.feed.accepted)) (checked : IsCheckedOn s sub max seer items before after t)
    (top : IsTop new (old ++ under (is_under seer.query) items)) where
  feed : t.feed ≡ s.feed
  feed = checked.placed.feed_is

  part : IsPartOf items (held s)
  part i h = (Contains-from_filter (is_unseen seer.query seer.shown) (held s) i
      (Contains-from_take max (unseen s seer) i (subst (λ (l : List Item). Contains l i) checked.items_are h))).0

  all_came : length items < max → (i : Item) → Contains (held s) i → is_unseen seer.query seer.shown i ≡ true → Contains items i
  all_came few i h u =
      let all : take max (unseen s seer) ≡ unseen s seer =
      few_are_all max (unseen s seer) (subst (λ (ys : List Item). length ys < max) checked.items_are few) in
      subst (λ (l : List Item). Contains l i) (sym (checked.items_are ∙ all))
      (Contains-filter (is_unseen seer.query seer.shown) (held s) i h u)

  refreshed : IsRefreshed t sub seer.query max after items new
  refreshed = record {
    follows = record {
      seer = record seer { stamp = after; shown = seer.shown ++ items };
      here = checked.placed.here;
      query_is = refl;
      stamp_is = refl;
      has = λ i h. new_has s.feed.accepted (held s) r.exact (held_is_top s r) seer.query seer.shown old items new has given part top i
          (subst (λ (f : Feed). Contains (tops f.accepted) i) feed h);
      given = subst (λ (f : Feed). IsPartOf new (under (is_under seer.query) f.accepted)) (sym feed)
          (new_given s.feed.accepted (held s) r.exact (held_is_top s r) seer.query seer.shown old items new has given part top);
    };
    current = λ few. subst (λ (f : Feed). new ≡ under (is_under seer.query) (tops f.accepted)) (sym feed)
        (new_is_all s.feed.accepted (held s) r.exact (held_is_top s r) seer.query seer.shown old items new has given part top
        (all_came few));
  }

pub follows_check : FollowsCheck
follows_check s t sub query stamp max before after items old new r f step top =
    subst (λ (q : Query). IsRefreshed t sub q max after items new) f.query_is
    (refreshed s t sub max before after items old new f.seer r
    (subst (λ (q : Query). (i : Item) → Contains (held s) i → passes (is_under q) i ≡ true → is_unseen q f.seer.shown i ≡ false →
    Contains old i) (sym f.query_is) f.has)
    (subst (λ (q : Query). IsPartOf old (under (is_under q) s.feed.accepted)) (sym f.query_is) f.given)
    (checked_leaves s t sub max f.seer items before after r f.here step)
    (subst (λ (q : Query). IsTop new (old ++ under (is_under q) items)) (sym f.query_is) top))

-- ---- what the stamp of a check tells
stamp_told : (m t : State) (sub max before after : ℕ) (items : List Item) (seer : Subscription) → IsReached m →
    subscription_at m sub ≡ Some seer →
    Step m (Check sub max) (Checked items before after) t → before ≡ seer.stamp
stamp_told m t sub max before after items seer r here step = (checked_leaves m t sub max seer items before after r here step).before_is

pub tells_others : TellsOthers
tells_others es s m t sub query stamp max before after items map r f run step differs = elim (used_or_not sub es) [
  | inl u ↦ u
  | inr none ↦
      (let g = follows_unused es s m sub query stamp map r run none f in
      absurd (differs (stamp_told m t sub max before after items g.seer (stays_reached es s m r run) g.here step ∙ g.stamp_is)))
]

pub tells_own : TellsOwn
tells_own es s m t sub query stamp max before after items map r f run step own = elim (follows_on es s m sub query stamp map r run f) [
  | inl g ↦ g
  | inr o ↦ absurd
      (let e : before ≡ o.seer.stamp = stamp_told m t sub max before after items o.seer (stays_reached es s m r run) o.here step in
      let above : stamp < o.seer.stamp = o.above in omega (arith, e, above, own))
]
