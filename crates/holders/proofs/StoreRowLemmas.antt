-- Stores that merged different items, and what they hold.
use Rattle.std.proofs.Common.{◌≡◌, ℕ, zero, suc, ◌+◌, List, [], ◌∷◌, length, map, replicate}
use Rattle.std.proofs.Common.{codes, refl, ap, sym, subst, inl, inr, arith, Contains, Option, None, Some}
use Rattle.std.specs.Option.{option_map}
use Rattle.std.proofs.lemmas.List.{append-nil}
use Rattle.history.specs.History.{entry}
use Rattle.ds_entry.specs.declared.item.Item.{Item}
use Rattle.ds_entry.proofs.Members.{Contains-head, Contains-nil, Contains-single}
use Rattle.ds_feed.specs.Feed.{Feed, all_keys, position}
use Rattle.ds_feed.specs.Kept.{Kept, last_items}
use Rattle.ds_held.specs.Limits.{larger}
use Rattle.ds_machine.specs.Effect.{learnt_by}
use Rattle.ds_machine.specs.Machine.{Step}
use Rattle.ds_machine.specs.Reached.{IsReached}
use Rattle.ds_machine.specs.State.{State, held, opening, takes_effect}
use Rattle.ds_machine.specs.Subscription.{Subscription}
use Rattle.ds_machine.specs.Within.{IsWithin}
use Rattle.ds_machine.specs.declared.command.Command.TheVariants.{Merge}
use Rattle.ds_machine.specs.declared.reply.Reply.{Reply}
use Rattle.ds_machine.specs.declared.reply.Reply.TheVariants.{Merged}
use Rattle.ds_machine.proofs.KnownLemmas.{steps_stay_reached}
use Rattle.ds_machine.proofs.ReachedLemmas.{opening_is_reached}
use Rattle.ds_machine.proofs.WithinLemmas.{opening_is_within, steps_stay_within}
use Rattle.ds_content.specs.Content.{ContentRecord}
use Rattle.ds_content.specs.Followed.{followed_of}
use Rattle.ds_content.specs.Stands.{ContentStands}
use Rattle.ds_store.specs.Last.{IsLast}
use Rattle.ds_store.specs.Turns.{Turn}
use Rattle.ds_store.proofs.WatchLemmas.{no_items}
use Rattle.ds_entry.specs.declared.item.Item.TheVariants.{Change as Changed}
use Rattle.ds_replica.specs.Rows.{ended, one, other}
use Rattle.ds_replica.proofs.HolderPremiseLemmas.{covers_one}
use Rattle.holders.specs.Holding.{StoreKnows}
use Rattle.holders.specs.Premises.{StoreLabelsNeedCovering, StoresAgree, StoresNeedCovering, StoresNeedExact}
use Rattle.holders.proofs.PremiseLemmas.{both_exact, change_is_map, change_knows, change_map, floor_covers, label_is_older, label_of}
use Rattle.holders.proofs.PremiseLemmas.{numbers_differ, one_exact, single_is}

-- ---- the content of a state

abbrev kept_of : Feed → Kept
kept_of f = record {
  items = last_items f.ring f.accepted;
  first = f.first;
  position = position f;
  ring = f.ring;
  incarnation = f.incarnation;
}

abbrev pub content_of : State → ContentRecord
content_of s = record {
  held = held s;
  journal = kept_of s.feed;
  limits = s.limits;
  stamp = s.stamp;
  subscriptions = map (option_map (followed_of (held s))) s.subscriptions;
}

pub content_stands : (s : State) → IsReached s → IsWithin s → ContentStands (content_of s) s
content_stands s reached within = record {
  held = refl;
  journal = record { items = refl; first = refl; position = refl; ring = refl; incarnation = refl };
  limits = refl;
  stamp = refl;
  subscriptions = refl;
  reached = reached;
  within = within;
}

-- ---- an empty store

abbrev pub empty : State
empty = opening 1 0 4 larger

empty_reached : IsReached empty
empty_reached = opening_is_reached 1 0 4 larger (inr refl)

empty_within : IsWithin empty
empty_within = opening_is_within 1 0 4 larger (omega arith)

none_followed : {A : Type 0} (f g : Subscription → A) (n : ℕ) (xs : List (Option Subscription)) →
    map (option_map f) (replicate n None) ≡ map (option_map g) xs → xs ≡ replicate n None
none_followed f g zero [] is = refl
none_followed f g zero (x ∷ xs) is = cc
none_followed f g (suc n) [] is = cc
none_followed f g (suc n) (None ∷ xs) is = ap (λ (l : List (Option Subscription)). None ∷ l) (none_followed f g n xs cc)
none_followed f g (suc n) (Some x ∷ xs) is = cc

-- Its content stands for no other state.
only_empty : (s : State) → ContentStands (content_of empty) s → s ≡ empty
only_empty s stands =
    let first : s.feed.first ≡ 0 = sym stands.journal.first in
    let count : 0 ≡ s.feed.first + length s.feed.accepted = stands.journal.position in
    let none : s.feed.accepted ≡ [] = no_items s.feed.accepted (omega (arith, first, count)) in
    let ring : s.feed.ring ≡ 4 = sym stands.journal.ring in
    let incarnation : s.feed.incarnation ≡ 1 = sym stands.journal.incarnation in
    let limits : s.limits ≡ larger = sym stands.limits in
    let stamp : s.stamp ≡ 0 = sym stands.stamp in
    let seers : s.subscriptions ≡ replicate 128 None =
    none_followed (followed_of (held empty)) (followed_of (held s)) 128 s.subscriptions stands.subscriptions in
    λ i. record {
      feed = record { accepted = none i; first = first i; ring = ring i; incarnation = incarnation i };
      limits = limits i;
      stamp = stamp i;
      subscriptions = seers i;
    }

-- ---- a store that merged items

module _ (items : List Item) (reply : Reply) (t : State) (step : Step empty (Merge items) reply t) (last : IsLast empty (Merge items) reply)
  where
    reached_after : IsReached t
    reached_after = steps_stay_reached empty t (Merge items) reply empty_reached step

    within_after : IsWithin t
    within_after = steps_stay_within empty t (Merge items) reply empty_within step

    merged_once : Turn (content_of empty) (Merge items) reply (content_of t)
    merged_once = record {
      stood = (empty, content_stands empty empty_reached empty_within);
      steps = λ s stands. (
        t,
        subst (λ (x : State). Step x (Merge items) reply t) (sym (only_empty s stands)) step,
        content_stands t reached_after within_after,
      );
      last = λ s stands. subst (λ (x : State). IsLast x (Merge items) reply) (sym (only_empty s stands)) last;
    }

    pub merging_knows : StoreKnows (content_of t) (learnt_by empty (Merge items) reply)
    merging_knows = record {
      opened = content_of empty;
      start = empty;
      content = content_stands empty empty_reached empty_within;
      empty = refl;
      turns = entry 0 (Merge items) reply ∷ [];
      run = (content_of t, merged_once, refl);
      known_is = sym (append-nil (learnt_by empty (Merge items) reply));
    }

-- A store that merged nothing.
pub nothing_merged : StoreKnows (content_of empty) []
nothing_merged = record {
  opened = content_of empty;
  start = empty;
  content = content_stands empty empty_reached empty_within;
  empty = refl;
  turns = [];
  run = refl;
  known_is = refl;
}

-- ---- the stores

module _ (i : Item) (step : Step empty (Merge (i ∷ [])) (Merged 1 1 0 0) (takes_effect empty (i ∷ []))) where
  pub one_merged : StoreKnows (content_of (takes_effect empty (i ∷ []))) (i ∷ [])
  one_merged = merging_knows (i ∷ []) (Merged 1 1 0 0) (takes_effect empty (i ∷ [])) step tt

abbrev pub with_one : State
with_one = takes_effect empty (one ∷ [])

abbrev pub with_both : State
with_both = takes_effect empty (one ∷ ended ∷ [])

abbrev pub with_floor : State
with_floor = takes_effect empty (ended ∷ [])

pub one_known : StoreKnows (content_of with_one) (one ∷ [])
one_known = one_merged one (inl (inl (record { reply_is = refl; state_is = refl })))

other_known : StoreKnows (content_of (takes_effect empty (other ∷ []))) (other ∷ [])
other_known = one_merged other (inl (inl (record { reply_is = refl; state_is = refl })))

label_known : StoreKnows (content_of (takes_effect empty (Changed (label_of 4) ∷ []))) (Changed (label_of 4) ∷ [])
label_known = one_merged (Changed (label_of 4)) (inl (inl (record { reply_is = refl; state_is = refl })))

pub floor_known : StoreKnows (content_of with_floor) (ended ∷ [])
floor_known = one_merged ended (inl (inl (record { reply_is = refl; state_is = refl })))

both_step : Step empty (Merge (one ∷ ended ∷ [])) (Merged 2 2 0 0) with_both
both_step = inl (inl (record { reply_is = refl; state_is = refl }))

pub both_reached : IsReached with_both
both_reached = reached_after (one ∷ ended ∷ []) (Merged 2 2 0 0) with_both both_step tt

pub both_known : StoreKnows (content_of with_both) (one ∷ ended ∷ [])
both_known = merging_knows (one ∷ ended ∷ []) (Merged 2 2 0 0) with_both both_step tt

-- ---- the rows

pub stores_need_exact : StoresNeedExact
stores_need_exact law =
    let same : one ∷ [] ≡ other ∷ [] =
    law all_keys (content_of with_one) (content_of (takes_effect empty (other ∷ []))) (one ∷ []) (other ∷ []) one_known other_known
    (record { there = covers_one other one refl; here = covers_one one other refl }) in
    numbers_differ (Contains-single other one (subst (λ (l : List Item). Contains l one) same (Contains-head one [])))

pub stores_need_covering : StoresNeedCovering
stores_need_covering law =
    let same : [] ≡ one ∷ [] =
    law all_keys (content_of empty) (content_of with_one) [] (one ∷ []) nothing_merged one_known one_exact
    (λ i h. absurd (Contains-nil i h)) in
    cc

pub store_labels_need_covering : StoreLabelsNeedCovering
store_labels_need_covering own passes law =
    label_is_older own passes
    (law (change_map own (label_of 3) passes) (content_of (takes_effect empty (Changed (label_of 4) ∷ []))) (Changed (label_of 3) ∷ [])
    (Changed (label_of 4) ∷ []) (codes "eth0") (change_is_map own (label_of 3) passes) (change_knows own (label_of 3) passes) label_known
    (single_is 3 (omega arith) (omega arith)) (single_is 4 (omega arith) (omega arith)) passes)

pub stores_agree : StoresAgree
stores_agree = record {
  first = content_of with_both;
  second = content_of with_floor;
  first_knows = both_known;
  second_knows = floor_known;
  exact = both_exact;
  cover = floor_covers;
  held = refl;
}
