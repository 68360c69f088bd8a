-- What subscriptions are to be shown after an item took effect.
use Rattle.std.proofs.Common.{◌≡◌, ℕ, suc, ◌+◌, Bool, true, false, not, ◌&&◌, List, [], ◌∷◌, ◌++◌, map, get_or, Option, Some, None, refl}
use Rattle.std.proofs.Common.{ap, ap₂, sym, ◌∙◌, subst, inl, inr, arith, Contains}
use Rattle.std.proofs.lemmas.List.Elements.{Contains-push_cases}
use Rattle.std.specs.Option.{option_map}
use Rattle.ds_entry.specs.declared.item.Item.{Item}
use Rattle.ds_feed.specs.Feed as feeds
use Rattle.ds_feed.specs.Kept.{Kept, Keeps}
use Rattle.ds_held.specs.Limits.{LimitsRecord}
use Rattle.ds_join.specs.ItemTop.{IsTop, IsPartOf}
use Rattle.ds_pattern.specs.declared.query.Query.{Query}
use Rattle.ds_watch.specs.Followed.{Followed}
use Rattle.ds_watch.specs.Watching.{Watching}
use Rattle.ds_machine.specs.Subscription.{Subscription, is_unseen}
use Rattle.ds_machine.specs.State.{State, held, takes_effect}
use Rattle.ds_machine.specs.Reached.{IsReached}
use Rattle.ds_machine.specs.Within.{IsWithin}
use Rattle.ds_machine.specs.Effect.{IsNews}
use Rattle.ds_machine.proofs.ReachedLemmas.{reached_more}
use Rattle.ds_content.specs.Content.{ContentRecord}
use Rattle.ds_content.specs.Followed.{followed_of, followed_by, followed_from, watches_item}
use Rattle.ds_content.specs.Stands.{ContentStands}
use Rattle.ds_content.proofs.FlagLemmas.{tests_at, flags_same}
use Rattle.ds_content.proofs.TopLemmas.{held_more, unshown}
use Rattle.ds_pattern.specs.Under.{is_under}
use Rattle.ds_entry.specs.Item.{passes}

pub followed_same : {q r : Query} {m n : ℕ} {us vs : List Bool} → q ≡ r → m ≡ n → us ≡ vs → let one : Followed =
    record { query = q; stamp = m; unseen = us } in one ≡ record { query = r; stamp = n; unseen = vs }
followed_same a b c = λ i. record { query = a i; stamp = b i; unseen = c i }

next : (place k : ℕ) → suc place + k ≡ place + suc k
next place k = omega arith

at_first : (place : ℕ) → place ≡ place + 0
at_first place = omega arith

pub none_more : (k : ℕ) → 0 + k ≡ k
none_more k = omega arith

pub and_true : (b : Bool) → b && true ≡ b
and_true true = refl
and_true false = refl

module _ (s : State) (i : Item) (r : IsReached s) (news : IsNews s.feed.accepted i) (new : List Item) (t : IsTop new (held s ++ i ∷ []))
  where
    -- it is to be shown where it is under the query
    unseen_now : (q : Query) (shown : List Item) → IsPartOf shown s.feed.accepted → is_unseen q shown i ≡ passes (is_under q) i
    unseen_now q shown part = ap (λ b. passes (is_under q) i && not b) (unshown s.feed.accepted shown i news part) ∙
        and_true (passes (is_under q) i)

    -- the flags of what was held are unchanged
    module _ (u v : Item → List Bool) (others : (x : Item) → Contains new x → Contains (held s) x → v x ≡ u x) where
      module _ (place : ℕ) (sub : Subscription) (w : Watching) (here : get_or (v i) place false ≡ passes (is_under w.query) i)
          (part : IsPartOf sub.shown s.feed.accepted)
          (same : followed_by (held s) u place w ≡ followed_of (held s) sub) where
        query : w.query ≡ sub.query
        query = ap (λ (f : Followed). f.query) same

        old_flags : map (λ (x : Item). get_or (u x) place false) (held s) ≡ map (is_unseen sub.query sub.shown) (held s)
        old_flags = ap (λ (f : Followed). f.unseen) same

        new_flag : (x : Item) → Contains new x → get_or (v x) place false ≡ is_unseen sub.query sub.shown x
        new_flag x h = elim (Contains-push_cases (held s) i x (t.among x h)) [
          | inl k ↦ ap (λ (fs : List Bool). get_or fs place false) (others x h k) ∙
              tests_at (λ (y : Item). get_or (u y) place false) (is_unseen sub.query sub.shown) (held s) old_flags x k
          | inr q ↦ subst (λ (y : Item). get_or (v y) place false ≡ is_unseen sub.query sub.shown y) q
              (here ∙ ap (λ (y : Query). passes (is_under y) i) query ∙ sym (unseen_now sub.query sub.shown part))
        ]

        same_after : followed_by new v place w ≡ followed_of new sub
        same_after =
            followed_same query (ap (λ (f : Followed). f.stamp) same)
            (flags_same (λ (x : Item). get_or (v x) place false) (is_unseen sub.query sub.shown) new new_flag)

      all_follow : (place : ℕ) (ws : List (Option Watching)) (subs : List (Option Subscription)) →
          ((k : ℕ) → get_or (v i) (place + k) false ≡ watches_item i (get_or ws k None))
          → followed_from (held s) u place ws ≡ map (option_map (followed_of (held s))) subs →
          ((k : ℕ) (seer : Subscription) → get_or subs k None ≡ Some seer → IsPartOf seer.shown s.feed.accepted)
          → followed_from new v place ws ≡ map (option_map (followed_of new)) subs
      all_follow place [] [] here e b = refl
      all_follow place [] (sub ∷ subs) here e b = absurd (cc)
      all_follow place (w ∷ ws) [] here e b = absurd (cc)
      all_follow place (None ∷ ws) (None ∷ subs) here e b =
          let rest : followed_from (held s) u (suc place) ws ≡ map (option_map (followed_of (held s))) subs = cc in
          ap (λ l. None ∷ l) (all_follow (suc place) ws subs (λ k. ap (λ n. get_or (v i) n false) (next place k) ∙ here (suc k)) rest
          (λ k seer f. b (suc k) seer f))
      all_follow place (None ∷ ws) (Some sub ∷ subs) here e b = absurd (cc)
      all_follow place (Some w ∷ ws) (None ∷ subs) here e b = absurd (cc)
      all_follow place (Some w ∷ ws) (Some sub ∷ subs) here e b =
          let rest : followed_from (held s) u (suc place) ws ≡ map (option_map (followed_of (held s))) subs = cc in
          let first : followed_by (held s) u place w ≡ followed_of (held s) sub = cc in
          ap₂ (λ f l. Some f ∷ l) (same_after place sub w (ap (λ n. get_or (v i) n false) (at_first place) ∙ here 0) (b 0 sub refl) first)
          (all_follow (suc place) ws subs (λ k. ap (λ n. get_or (v i) n false) (next place k) ∙ here (suc k)) rest
          (λ k seer f. b (suc k) seer f))

      pub follow : (ws : List (Option Watching)) → ((k : ℕ) → get_or (v i) k false ≡ watches_item i (get_or ws k None)) →
          followed_from (held s) u 0 ws ≡ map (option_map (followed_of (held s))) s.subscriptions
          → followed_from new v 0 ws ≡ map (option_map (followed_of new)) s.subscriptions
      follow ws here e = all_follow 0 ws s.subscriptions (λ k. ap (λ n. get_or (v i) n false) (none_more k) ∙ here k) e
          (λ k seer f. (r.served k seer f).shown)

-- ---- the state with the item
pub stands_more : (x : ContentRecord) (s : State) (i : Item) (new : List Item) (journal : Kept) (limits : LimitsRecord)
    (u v : Item → List Bool) (ws : List (Option Watching)) →
    ContentStands x s → x.subscriptions ≡ followed_from x.held u 0 ws
    → ((k : ℕ) → get_or (v i) k false ≡ watches_item i (get_or ws k None)) → ((y : Item) → Contains new y → Contains x.held y → v y ≡ u y)
    → IsNews s.feed.accepted i → IsWithin (takes_effect s (i ∷ [])) → IsTop new (x.held ++ i ∷ []) →
    Keeps journal (feeds.accepts s.feed i) → limits ≡ x.limits
    → ContentStands (record { held = new; journal = journal; limits = limits; stamp = x.stamp; subscriptions = followed_from new v 0 ws })
    (takes_effect s (i ∷ []))
stands_more x s i new journal limits u v ws stands is owes others news within t keeps bounds =
    let joined : IsTop new (held s ++ i ∷ []) = subst (λ hs. IsTop new (hs ++ i ∷ [])) stands.held t in
    let now : new ≡ held (takes_effect s (i ∷ [])) = held_more s i new stands.reached news joined in
    let same : followed_from (held s) u 0 ws ≡ map (option_map (followed_of (held s))) s.subscriptions =
    ap (λ hs. followed_from hs u 0 ws) (sym stands.held) ∙ sym is ∙ stands.subscriptions in
    let kept : (y : Item) → Contains new y → Contains (held s) y → v y ≡ u y = λ y h k.
    others y h (subst (λ (hs : List Item). Contains hs y) (sym stands.held) k) in
    record {
      held = now;
      journal = keeps;
      limits = bounds ∙ stands.limits;
      stamp = stands.stamp;
      subscriptions = follow s i stands.reached news new joined u v kept ws owes same ∙
          ap (λ hs. map (option_map (followed_of hs)) s.subscriptions) now;
      reached = reached_more s i stands.reached news;
      within = within;
    }
