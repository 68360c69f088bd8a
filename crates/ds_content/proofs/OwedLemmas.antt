-- Which subscriptions are owed an item.
use Rattle.std.proofs.Common.{◌≡◌, ℕ, zero, suc, ◌-◌, ◌≤◌, Bool, true, false, ◌||◌, List, [], ◌∷◌, ◌++◌, map, length, get_or, replicate}
use Rattle.std.proofs.Common.{Option, Some, None, is_some, refl, ap, ap₂, sym, ◌∙◌, arith, length-append}
use Rattle.std.proofs.lemmas.List.{length-replicate}
use Rattle.std.specs.Option.{option_map}
use Rattle.ds_names.specs.declared.key.Key.{Key}
use Rattle.ds_entry.specs.Change.{ChangeRecord}
use Rattle.ds_entry.specs.declared.floor.Floor.{Floor}
use Rattle.ds_entry.specs.declared.item.Item.{Item}
use Rattle.ds_entry.specs.declared.item.Item.TheVariants.{Change as Changed, Floor as Floored}
use Rattle.ds_pattern.specs.Under.{is_under}
use Rattle.ds_watch.specs.Followed.{Followed, owed_for}
use Rattle.ds_watch.specs.Mask.{padded}
use Rattle.ds_watch.specs.Watching.{Watching}
use Rattle.ds_watch.specs.Watching as keys
use Rattle.ds_machine.specs.Subscription.{Subscription, is_owed}
use Rattle.ds_machine.specs.State.{State, held}
use Rattle.ds_content.specs.Content.{ContentRecord}
use Rattle.ds_content.specs.Followed.{followed_of, followed_from, watches_item}
use Rattle.ds_content.specs.Stands.{ContentStands}
use Rattle.ds_watch.proofs.PaddedLemmas.{no_flag}

-- ---- of what is kept
pub key_watches : (c : ChangeRecord) (ws : List (Option Watching)) → map (watches_item (Changed c)) ws ≡ map (keys.watches c.key) ws
key_watches c [] = refl
key_watches c (None ∷ ws) = ap (λ l. false ∷ l) (key_watches c ws)
key_watches c (Some w ∷ ws) = ap (λ l. is_under w.query c.key ∷ l) (key_watches c ws)

pub floor_watches : (f : Floor) (ws : List (Option Watching)) → map (watches_item (Floored f)) ws ≡ map is_some ws
floor_watches f [] = refl
floor_watches f (None ∷ ws) = ap (λ l. false ∷ l) (floor_watches f ws)
floor_watches f (Some w ∷ ws) = ap (λ l. true ∷ l) (floor_watches f ws)

pub key_shown : (key : Key) (hs : List Item) (u : Item → List Bool) (place : ℕ) (ws : List (Option Watching)) →
    owed_for key (followed_from hs u place ws) ≡ map (keys.watches key) ws
key_shown key hs u place [] = refl
key_shown key hs u place (None ∷ ws) = ap (λ l. false ∷ l) (key_shown key hs u (suc place) ws)
key_shown key hs u place (Some w ∷ ws) = ap (λ l. is_under w.query key ∷ l) (key_shown key hs u (suc place) ws)

pub made_shown : (hs : List Item) (u : Item → List Bool) (place : ℕ) (ws : List (Option Watching)) →
    map is_some (followed_from hs u place ws) ≡ map is_some ws
made_shown hs u place [] = refl
made_shown hs u place (None ∷ ws) = ap (λ l. false ∷ l) (made_shown hs u (suc place) ws)
made_shown hs u place (Some w ∷ ws) = ap (λ l. true ∷ l) (made_shown hs u (suc place) ws)

-- ---- of the state
or_false : (b : Bool) → b || false ≡ b
or_false true = refl
or_false false = refl

key_owed : (c : ChangeRecord) (hs : List Item) (subs : List (Option Subscription)) →
    owed_for c.key (map (option_map (followed_of hs)) subs) ≡ map (is_owed (Changed c ∷ [])) subs
key_owed c hs [] = refl
key_owed c hs (None ∷ subs) = ap (λ l. false ∷ l) (key_owed c hs subs)
key_owed c hs (Some sub ∷ subs) = ap₂ ◌∷◌ (sym (or_false (is_under sub.query c.key))) (key_owed c hs subs)

floor_owed : (f : Floor) (hs : List Item) (subs : List (Option Subscription)) →
    map is_some (map (option_map (followed_of hs)) subs) ≡ map (is_owed (Floored f ∷ [])) subs
floor_owed f hs [] = refl
floor_owed f hs (None ∷ subs) = ap (λ l. false ∷ l) (floor_owed f hs subs)
floor_owed f hs (Some sub ∷ subs) = ap (λ l. true ∷ l) (floor_owed f hs subs)

pub key_owed_as : (v : ContentRecord) (s : State) (c : ChangeRecord) → ContentStands v s →
    owed_for c.key v.subscriptions ≡ map (is_owed (Changed c ∷ [])) s.subscriptions
key_owed_as v s c stands = ap (owed_for c.key) stands.subscriptions ∙ key_owed c (held s) s.subscriptions

pub floor_owed_as : (v : ContentRecord) (s : State) (f : Floor) → ContentStands v s →
    map is_some v.subscriptions ≡ map (is_owed (Floored f ∷ [])) s.subscriptions
floor_owed_as v s f stands = ap (λ (l : List (Option Followed)). map is_some l) stands.subscriptions ∙ floor_owed f (held s) s.subscriptions

-- ---- the flags of a mask

past : (ws : List (Option Watching)) (i : Item) (n k : ℕ) →
    get_or (map (watches_item i) ws ++ replicate n false) k false ≡ watches_item i (get_or ws k None)
past [] i n k = no_flag n k
past (w ∷ ws) i n zero = refl
past (w ∷ ws) i n (suc k) = past ws i n k

pub padded_flag : (ws : List (Option Watching)) (i : Item) (k : ℕ) →
    get_or (padded (map (watches_item i) ws)) k false ≡ watches_item i (get_or ws k None)
padded_flag ws i k = past ws i (128 - length (map (watches_item i) ws)) k

pub padded_long : (fs : List Bool) → length fs ≤ 128 → length (padded fs) ≡ 128
padded_long fs few = let n = length-append fs (replicate (128 - length fs) false) in let m =
    length-replicate {A = Bool} (128 - length fs) false in omega (arith, n, m, few)
