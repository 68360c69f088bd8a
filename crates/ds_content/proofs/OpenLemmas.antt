-- What a content stands for at its opening, and small facts about what it returns.
use Rattle.std.proofs.Common.{◌≡◌, ℕ, zero, suc, ◌≤◌, Bool, false, List, [], ◌∷◌, ◌++◌, map, length, replicate, Option, None, Result, Ok}
use Rattle.std.proofs.Common.{Err, IfOk, refl, ap, ap₂, sym, ◌∙◌, subst, arith, Contains}
use Rattle.std.proofs.lemmas.List.{length-replicate}
use Rattle.std.specs.FinMap.{entries, len, len-entries, len-empty}
use Rattle.std.specs.Option.{option_map}
use Rattle.std.specs.Result.{OnErr}
use Rattle.ds_names.specs.declared.key.Key.{Key}
use Rattle.ds_names.specs.Key.{name_cmp, key_cmp}
use Rattle.ds_entry.specs.Change.{ChangeRecord}
use Rattle.ds_entry.specs.declared.item.Item.{Item}
use Rattle.ds_entry.proofs.Members.{Contains-nil}
use Rattle.ds_feed.specs.Feed as feeds
use Rattle.ds_feed.specs.Kept.{Kept, Keeps, cursor_of}
use Rattle.ds_held.specs.Held.{Holding, held_items, nothing_held, floor_item, change_item}
use Rattle.ds_held.specs.Limits.{LimitsRecord, IsLimits}
use Rattle.ds_index.specs.Marked.{MarkedHolding, nothing_marked}
use Rattle.ds_watch.specs.Watching.{Watching}
use Rattle.ds_watch.specs.declared.masks.Masks.{Masks}
use Rattle.ds_machine.specs.State.{State, cursor, opening}
use Rattle.ds_machine.proofs.WithinLemmas.{opening_is_within}
use Rattle.ds_content.specs.Followed.{followed_of, followed_from}
use Rattle.ds_content.specs.Kept.{AreMarked, ArePending, unseen_at}
use Rattle.ds_content.specs.Stands.{ContentStands}
use Rattle.ds_names.specs.Limits.{last_place}
use Rattle.ds_machine.proofs.ReachedLemmas.{opening_is_reached}

no_length : {X : Type 0} (xs : List X) → length xs ≡ 0 → xs ≡ []
no_length [] e = refl
no_length (x ∷ xs) e = absurd (omega (arith, e))

no_floors : (h : Holding) → len h.floors ≡ 0 → entries h.floors ≡ []
no_floors h e = no_length (entries h.floors) (omega (arith, len-entries h.floors, e))

no_changes : (h : Holding) → len h.changes ≡ 0 → entries h.changes ≡ []
no_changes h e = no_length (entries h.changes) (omega (arith, len-entries h.changes, e))

pub nothing_is_held : (limits : LimitsRecord) → held_items (nothing_held limits) ≡ []
nothing_is_held limits =
    let h = nothing_held limits in
    ap₂ (λ (fs : List (List ℕ × ℕ)) (es : List (Key × ChangeRecord)).
    map floor_item fs ++ map change_item (map (λ (e : Key × ChangeRecord). e.1) es)) (no_floors h (len-empty name_cmp ℕ))
    (no_changes h (len-empty key_cmp ChangeRecord))

-- ---- the opening state

none_from : (hs gs : List Item) (u : Item → List Bool) (place n : ℕ) →
    followed_from hs u place (replicate n None) ≡ map (option_map (followed_of gs)) (replicate n None)
none_from hs gs u place zero = refl
none_from hs gs u place (suc n) = ap (λ fs. None ∷ fs) (none_from hs gs u (suc place) n)

-- ---- nothing is held, and there is no subscription
module _ (h : MarkedHolding Masks) (ws : List (Option Watching)) (limits : LimitsRecord) (nothing : h ≡ nothing_marked limits)
    (none : ws ≡ replicate limits.subs None) where
  nothing_here : held_items h.held ≡ []
  nothing_here = ap (λ (x : MarkedHolding Masks). held_items x.held) nothing ∙ nothing_is_held limits

  pub bounds_here : h.held.limits ≡ limits
  bounds_here = ap (λ (x : MarkedHolding Masks). x.held.limits) nothing

  pub places_here : length ws ≡ h.held.limits.subs
  places_here = ap (λ (l : List (Option Watching)). length l) none ∙ length-replicate {A = Option Watching} limits.subs None ∙
      ap (λ (l : LimitsRecord). l.subs) (sym bounds_here)

  pub none_marked : AreMarked h ws
  none_marked = record {
    under = λ i k. absurd (Contains-nil i (subst (λ (l : List Item). Contains l i) nothing_here k));
    long = λ i k. absurd (Contains-nil i (subst (λ (l : List Item). Contains l i) nothing_here k));
  }

  pub none_pending : (pending : List Bool) → pending ≡ replicate 128 false → ArePending h pending
  none_pending pending is = record {
    long = ap (λ (fs : List Bool). length fs) is ∙ length-replicate 128 false;
    each = λ i k h t. absurd (Contains-nil i (subst (λ (l : List Item). Contains l i) nothing_here h));
  }

  pub stands_opening : (journal : Kept) (incarnation first ring stamp : ℕ) → Keeps journal (feeds.opening_feed incarnation first ring) →
      stamp ≡ first → IsLimits limits → first ≤ last_place
      → ContentStands
      (record {
        held = held_items h.held;
        journal = journal;
        limits = h.held.limits;
        stamp = stamp;
        subscriptions =
            followed_from (held_items h.held) (unseen_at h) 0 ws;
      }) (opening incarnation first ring limits)
  stands_opening journal incarnation first ring stamp keeps is bounds low = record {
    held = nothing_here;
    journal = keeps;
    limits = bounds_here;
    stamp = is;
    subscriptions = ap (followed_from (held_items h.held) (unseen_at h) 0) none ∙
        none_from (held_items h.held) [] (unseen_at h) 0 limits.subs;
    reached = opening_is_reached incarnation first ring limits bounds;
    within = opening_is_within incarnation first ring limits low;
  }

-- ---- small facts
pub on_err : {T E : Type 0} (r : Result T E) (P : Type 0) → P → OnErr r P
on_err (Ok x) P p = tt
on_err (Err e) P p = p

pub if_ok : {A E : Type 0} (P Q : A → Type 0) (r : Result A E) → ((x : A) → P x → Q x) → IfOk r P → IfOk r Q
if_ok P Q (Ok x) f p = f x p
if_ok P Q (Err e) f p = tt

pub if_err : {T E : Type 0} {P Q : Type 0} (r : Result T E) → (P → Q) → OnErr r P → OnErr r Q
if_err (Ok x) f p = tt
if_err (Err e) f p = f p

pub cursor_is : (j : Kept) (s : State) → Keeps j s.feed → cursor_of j ≡ cursor s
cursor_is j s keeps = λ i. record { incarnation = keeps.incarnation i; position = keeps.position i }
