-- The effects of a Subscribe and a Check.
use Rattle.std.specs.Prelude.{ℕ, ◌+◌, ◌^◌, Bool, false, ◌&&◌, cond, is_some, List, [], ◌∷◌, ◌++◌, take, Option}
use Rattle.std.specs.List.{list_any}
use Rattle.std.specs.Option.{option_map_or}
use Rattle.ds_entry.specs.declared.item.Item.{Item}
use Rattle.ds_pattern.specs.declared.query.Query.{Query}
use Rattle.ds_machine.specs.Subscription.{Subscription, is_unseen}
use Rattle.ds_machine.specs.State.{State, held, unseen, subscription_at, subscribes}
use Rattle.ds_machine.specs.Order.{first_refusal}
use Rattle.ds_machine.specs.Calling.{SubscribeCase, CheckCase, against_subscribe, against_check}
use Rattle.ds_machine.specs.declared.refusal.Refusal.TheVariants as refusals
use Rattle.ds_machine.specs.declared.reply.Reply.{Reply}
use Rattle.ds_machine.specs.declared.reply.Reply.TheVariants.{Subscribed, Checked, Refused}
use Rattle.ds_pattern.specs.Under.{is_under}
use Rattle.ds_entry.specs.Item.{passes}

-- The subscription's bit if INITIAL is set and something held is under the query (a key, even a tombstone's, or a
-- floor), else 0.
abbrev pub owed_at_first : List Item → ℕ → Query → Bool → ℕ
owed_at_first held sub query initial = cond (initial && list_any (passes (is_under query)) held) (2 ^ sub) 0

-- What counts as shown at first: nothing with INITIAL, otherwise all that is held.
abbrev pub shown_at_first : List Item → Bool → List Item
shown_at_first held initial = cond initial [] held

abbrev pub subscribe_case : State → ℕ → Query → Bool → SubscribeCase
subscribe_case s sub query overwrite = record {
  places = s.limits.subs;
  taken = is_some (subscription_at s sub);
  stamp = s.stamp;
  sub = sub;
  query = query;
  overwrite = overwrite;
}

abbrev pub subscribing : State → ℕ → Query → Bool → Bool → Reply × State
subscribing s sub query initial overwrite =
    option_map_or (λ refusal. (Refused refusal, s)) (first_refusal (against_subscribe (subscribe_case s sub query overwrite)))
    (Subscribed (s.stamp + 1) (owed_at_first (held s) sub query initial), subscribes s sub query (shown_at_first (held s) initial))

-- The reply and state after showing the items: the subscription takes the next stamp. With no items, nothing changes.
abbrev pub shows : State → ℕ → Subscription → List Item → Reply × State
shows s sub seer [] = (Checked [] seer.stamp seer.stamp, s)
shows s sub seer (i ∷ items) = (Checked (i ∷ items) seer.stamp (s.stamp + 1), subscribes s sub seer.query (seer.shown ++ i ∷ items))

-- Whether there is something to show.
abbrev pub has_unseen : State → Subscription → Bool
has_unseen s seer = list_any (is_unseen seer.query seer.shown) (held s)

abbrev pub check_case : State → ℕ → ℕ → Option Subscription → CheckCase
check_case s sub max seer = record {
  places = s.limits.subs;
  taken = is_some seer;
  some = option_map_or (has_unseen s) seer false;
  stamp = s.stamp;
  sub = sub;
  max = max;
}

-- The reply and state of a Check, which shows the first `max` unseen items.
abbrev pub checking_at : State → ℕ → ℕ → Option Subscription → Reply × State
checking_at s sub max seer =
    option_map_or (λ refusal. (Refused refusal, s)) (first_refusal (against_check (check_case s sub max seer)))
    (option_map_or (λ f. shows s sub f (take max (unseen s f))) seer (Refused refusals.NotFound, s))

abbrev pub checking : State → ℕ → ℕ → Reply × State
checking s sub max = checking_at s sub max (subscription_at s sub)
