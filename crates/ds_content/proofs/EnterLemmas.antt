-- An item that took effect: what the content stands for then, and that it is sound.
use Rattle.std.proofs.Common.{◌≡◌, ℕ, ◌≤◌, Bool, List, [], ◌∷◌, ◌++◌, map, length, Option, Some, is_some, refl, ap, sym, ◌∙◌, subst, inl}
use Rattle.std.proofs.Common.{inr, arith, Contains}
use Rattle.ds_names.specs.declared.key.Key.{Key}
use Rattle.ds_entry.specs.Change.{ChangeRecord}
use Rattle.ds_entry.specs.declared.floor.Floor.{Floor}
use Rattle.ds_entry.specs.declared.item.Item.{Item}
use Rattle.ds_entry.specs.declared.item.Item.TheVariants.{Change as Changed, Floor as Floored}
use Rattle.ds_feed.specs.Feed as feeds
use Rattle.ds_feed.specs.Feed.{Feed}
use Rattle.ds_feed.specs.Kept.{Kept, Keeps}
use Rattle.ds_held.specs.Held.{held_items}
use Rattle.ds_held.specs.Limits.{LimitsRecord, IsLimits}
use Rattle.ds_index.specs.Marked.{MarkedHolding}
use Rattle.ds_join.specs.ItemTop.{IsTop}
use Rattle.ds_watch.specs.Followed.{owed_for}
use Rattle.ds_watch.specs.Mask.{either, padded}
use Rattle.ds_watch.specs.Masks.{fresh}
use Rattle.ds_watch.specs.Watching.{Watching}
use Rattle.ds_watch.specs.Watching as keys
use Rattle.ds_watch.specs.declared.masks.Masks.{Masks}
use Rattle.ds_machine.specs.State.{State, takes_effect}
use Rattle.ds_content.specs.Content.{ContentRecord}
use Rattle.ds_content.specs.Followed.{watches_item, followed_from}
use Rattle.ds_content.specs.Kept.{AreMarked, ArePending, masks_at, unseen_at}
use Rattle.ds_content.specs.Stands.{ContentStands}
use Rattle.ds_content.proofs.KeptLemmas.{fresh_flag, other_flags, marked_more, pending_more}
use Rattle.ds_content.proofs.MarkLemmas.{stands_more}
use Rattle.ds_content.proofs.OwedLemmas.{key_shown, key_watches, made_shown, floor_watches}
use Rattle.ds_content.proofs.RoomLemmas.{Enters}
use Rattle.ds_content.proofs.TopLemmas.{not_held}

-- the value of these parts
abbrev pub value_of : MarkedHolding Masks → Kept → ℕ → List (Option Watching) → ContentRecord
value_of h journal stamp ws =
    record {
      held = held_items h.held;
      journal = journal;
      limits = h.held.limits;
      stamp = stamp;
      subscriptions =
          followed_from (held_items h.held) (unseen_at h) 0 ws;
    }

few_subs : (l : LimitsRecord) → IsLimits l → l.subs ≤ 128
few_subs l (inl e) = subst (λ (x : LimitsRecord). x.subs ≤ 128) (sym e) (omega arith)
few_subs l (inr e) = subst (λ (x : LimitsRecord). x.subs ≤ 128) (sym e) (omega arith)

-- a content has places for at most 128 subscriptions
pub few_places : (v : ContentRecord) (s : State) (n : ℕ) → ContentStands v s → n ≡ v.limits.subs → n ≤ 128
few_places v s n stands e =
    let few = few_subs s.limits stands.reached.limits in
    let same : v.limits.subs ≡ s.limits.subs = ap (λ (l : LimitsRecord). l.subs) stands.limits in
    omega (arith, few, same, e)

module _ (old new : MarkedHolding Masks) (before after : Kept) (stamp : ℕ) (ws : List (Option Watching)) (i : Item) (owed : List Bool)
    (top : IsTop (held_items new.held) (held_items old.held ++ i ∷ [])) (bounds : new.held.limits ≡ old.held.limits)
    (here : masks_at new i ≡ Some (fresh owed))
    (kept : (Contains (held_items old.held) i → ⊥) → (y : Item) → Contains (held_items new.held) y → Contains (held_items old.held) y →
    masks_at new y ≡ masks_at old y)
    (owes : owed ≡ padded (map (watches_item i) ws)) (pushed : (f : Feed) → Keeps before f → Keeps after (feeds.accepts f i))
    (enters : (s : State) → ContentStands (value_of old before stamp ws) s → Enters s i) where
  gone : (s : State) → ContentStands (value_of old before stamp ws) s → Contains (held_items old.held) i → ⊥
  gone s stands k = not_held s i stands.reached (enters s stands).news (subst (λ (hs : List Item). Contains hs i) stands.held k)

  pub effect : (s : State) → ContentStands (value_of old before stamp ws) s →
      ContentStands (value_of new after stamp ws) (takes_effect s (i ∷ []))
  effect s stands =
      let e = enters s stands in
      let same = kept (gone s stands) in
      stands_more (value_of old before stamp ws) s i (held_items new.held) after new.held.limits (unseen_at old) (unseen_at new) ws stands
      refl
      (fresh_flag old new i owed top here same ws owes) (other_flags old new i owed top here same ws owes) e.news e.within top
      (pushed s.feed stands.journal) bounds

  pub marked_then : (s : State) → ContentStands (value_of old before stamp ws) s → length ws ≡ old.held.limits.subs → AreMarked old ws →
      AreMarked new ws
  marked_then s stands places are = marked_more old new i owed top here (kept (gone s stands)) ws owes
      (few_places (value_of old before stamp ws) s (length ws) stands places) are

  pub pending_then : (s : State) → ContentStands (value_of old before stamp ws) s → length ws ≡ old.held.limits.subs → AreMarked old ws
      → (pending : List Bool) → ArePending old pending → ArePending new (either pending owed)
  pending_then s stands places are pending =
      pending_more old new i owed top here (kept (gone s stands)) ws owes
      (few_places (value_of old before stamp ws) s (length ws) stands places) are pending

  pub places_then : length ws ≡ old.held.limits.subs → length ws ≡ new.held.limits.subs
  places_then places = places ∙ ap (λ (l : LimitsRecord). l.subs) (sym bounds)

-- ---- the subscriptions that are owed it, by what is kept of them, and by what is seen of them
module _ (h : MarkedHolding Masks) (journal : Kept) (stamp : ℕ) (ws : List (Option Watching)) (v : ContentRecord)
    (is : value_of h journal stamp ws ≡ v) where
  pub key_view : (key : Key) → padded (map (keys.watches key) ws) ≡ padded (owed_for key v.subscriptions)
  key_view key = ap padded (sym (key_shown key (held_items h.held) (unseen_at h) 0 ws)) ∙
      ap (λ (x : ContentRecord). padded (owed_for key x.subscriptions)) is

  pub change_view : (c : ChangeRecord) → padded (owed_for c.key v.subscriptions) ≡ padded (map (watches_item (Changed c)) ws)
  change_view c = sym (key_view c.key) ∙ ap padded (sym (key_watches c ws))

  pub made_view : padded (map is_some ws) ≡ padded (map is_some v.subscriptions)
  made_view = ap padded (sym (made_shown (held_items h.held) (unseen_at h) 0 ws)) ∙
      ap (λ (x : ContentRecord). padded (map is_some x.subscriptions)) is

  pub floor_view : (f : Floor) → padded (map is_some v.subscriptions) ≡ padded (map (watches_item (Floored f)) ws)
  floor_view f = sym made_view ∙ ap padded (sym (floor_watches f ws))
