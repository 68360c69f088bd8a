-- Items that take effect are changes of the rule.
use Rattle.std.proofs.Common.{◌≡◌, ◌∙◌, ℕ, ◌==◌, Bool, true, false, cond, not, List, [], ◌∷◌, ◌++◌, append_assoc, append-nil, refl}
use Rattle.std.proofs.Common.{sym, ap, subst}
use Rattle.std.proofs.Common.{inl, inr, ◌⊎◌, arith}
use Rattle.std.specs.Ordering.{is_lt}
use Rattle.std.specs.List.{Contains, filter, list_any}
use Rattle.std.proofs.lemmas.List.Elements.{Contains-append_left, Contains-append_right}
use Rattle.std.proofs.lemmas.List.Sums.{fold-append}
use Rattle.ds_entry.specs.Item.{item_cmp}
use Rattle.ds_entry.specs.ItemCovers.{covers}
use Rattle.ds_entry.specs.declared.item.Item.{Item}
use Rattle.ds_entry.proofs.ItemLemmas.{covers-refl, covers-trans}
use Rattle.ds_entry.proofs.Members.{Contains-filter, Contains-from_filter, Contains-from_list_any}
use Rattle.ds_entry.proofs.Members.{Contains-cons, Contains-head, Contains-nil, Contains-single, Contains-tail}
use Rattle.ds_join.specs.ItemTop.{inserted, held_after, tops}
use Rattle.fleet_rule.specs.Covered.{Covers, Joins}
use Rattle.fleet_rule.specs.Bridge.{Bridge, changed}
use Rattle.fleet_rule.specs.Fleet.{Fleet, Host, placed}
use Rattle.fleet_rule.specs.Happens.{Event, after, bridge_at}
use Rattle.fleet_rule.proofs.CoverLemmas.{part_left, by_part, both}
use Rattle.fleet_store.specs.Changes.{IsChangedTo, NewsAreChanges}
use Rattle.fleet_store.proofs.JoinLemmas.{left_joins}

-- ---- one more item that is held

in_inserted : (c : Item) (xs : List Item) (e : Item) → Contains (inserted c xs) e → (e ≡ c) ⊎ Contains xs e
in_inserted c [] e h = inl (Contains-single c e h)
in_inserted c (d ∷ ds) e h = by_test (is_lt (item_cmp c d)) h (in_inserted c ds e)
  where
    by_test : (b : Bool) → Contains (cond b (c ∷ d ∷ ds) (d ∷ inserted c ds)) e → (Contains (inserted c ds) e → (e ≡ c) ⊎ Contains ds e) →
        (e ≡ c) ⊎ Contains (d ∷ ds) e
    by_test true h rest = Contains-cons c (d ∷ ds) e h
    by_test false h rest = elim (Contains-cons d (inserted c ds) e h) [
      | inl q ↦ inr (subst (λ (x : Item). Contains (d ∷ ds) x) (sym q) (Contains-head d ds))
      | inr k ↦ elim (rest k) [ inl q ↦ inl q | inr m ↦ inr (Contains-tail d ds e m) ]
    ]

new_inserted : (c : Item) (xs : List Item) → Contains (inserted c xs) c
new_inserted c [] = Contains-head c []
new_inserted c (d ∷ ds) = elim (is_lt (item_cmp c d)) as (λ b. Contains (cond b (c ∷ d ∷ ds) (d ∷ inserted c ds)) c)
    [ true ↦ Contains-head c (d ∷ ds) | false ↦ Contains-tail d (inserted c ds) c (new_inserted c ds) ]

old_inserted : (c : Item) (xs : List Item) (e : Item) → Contains xs e → Contains (inserted c xs) e
old_inserted c [] e h = absurd (Contains-nil e h)
old_inserted c (d ∷ ds) e h = by_test (is_lt (item_cmp c d)) (old_inserted c ds e)
  where
    by_test : (b : Bool) → (Contains ds e → Contains (inserted c ds) e) → Contains (cond b (c ∷ d ∷ ds) (d ∷ inserted c ds)) e
    by_test true rest = Contains-tail c (d ∷ ds) e h
    by_test false rest = elim (Contains-cons d ds e h) [
      | inl q ↦ subst (λ (x : Item). Contains (d ∷ inserted c ds) x) (sym q) (Contains-head d (inserted c ds))
      | inr k ↦ Contains-tail d (inserted c ds) e (rest k)
    ]

module _ (held : List Item) (i : Item) where
  abbrev rest : List Item
  rest = filter (λ j. not (covers i j)) held

  put : Covers covers (inserted i rest) (held ++ i ∷ [])
  put = both covers covers-refl covers-trans held (i ∷ []) (inserted i rest) (record { each = old }) (record { each = new })
    where
      old : (j : Item) → Contains held j → (k : Item) × Contains (inserted i rest) k × (covers k j ≡ true)
      old j h = by_test (covers i j) refl
        where
          by_test : (b : Bool) → covers i j ≡ b → (k : Item) × Contains (inserted i rest) k × (covers k j ≡ true)
          by_test true e = (i, new_inserted i rest, e)
          by_test false e =
              let k = Contains-filter (λ j. not (covers i j)) held j h (ap not e) in
              (j, old_inserted i rest j k, covers-refl j)

      new : (j : Item) → Contains (i ∷ []) j → (k : Item) × Contains (inserted i rest) k × (covers k j ≡ true)
      new j h =
          let e : j ≡ i = Contains-single i j h in
          (i, new_inserted i rest, subst (λ (x : Item). covers i x ≡ true) (sym e) (covers-refl i))

  put_among : (j : Item) → Contains (inserted i rest) j → Contains (held ++ i ∷ []) j
  put_among j h = elim (in_inserted i rest j h) [
    | inl e ↦ subst (λ (x : Item). Contains (held ++ i ∷ []) x) (sym e) (Contains-append_right held (i ∷ []) i (Contains-head i []))
    | inr k ↦ Contains-append_left held (i ∷ []) j (Contains-from_filter (λ j. not (covers i j)) held j k).0
  ]

  known : list_any (λ j. covers j i) held ≡ true → Covers covers held (held ++ i ∷ [])
  known e =
      let j = Contains-from_list_any (λ j. covers j i) held e in
      both covers covers-refl covers-trans held (i ∷ []) held (by_part covers covers-refl covers-trans held held (λ x h. h))
      (record { each = λ x h. (j.0, j.1, subst (λ (y : Item). covers j.0 y ≡ true) (sym (Contains-single i x h)) j.2) })

  pub one_joins : Joins covers (held_after held i) held (i ∷ [])
  one_joins = by_test (list_any (λ j. covers j i) held) refl
    where
      by_test : (b : Bool) → list_any (λ j. covers j i) held ≡ b → Joins covers (cond b held (inserted i rest)) held (i ∷ [])
      by_test true e = record { among = part_left held (i ∷ []); covered = known e }
      by_test false e = record { among = put_among; covered = put }

tops_more : (accepted : List Item) (i : Item) → tops (accepted ++ i ∷ []) ≡ held_after (tops accepted) i
tops_more accepted i = fold-append held_after [] accepted (i ∷ [])

more_joins : (dead accepted : List Item) (i : Item) → Joins covers (tops (accepted ++ i ∷ []) ++ dead) (tops accepted ++ dead) (i ∷ [])
more_joins dead accepted i = left_joins covers covers-refl covers-trans (tops accepted) (tops (accepted ++ i ∷ [])) dead dead (i ∷ [])
    (subst (λ (x : List Item). Joins covers x (tops accepted) (i ∷ [])) (sym (tops_more accepted i)) (one_joins (tops accepted) i))
    (record {
      among = part_left dead (i ∷ []);
      covered = by_part covers covers-refl covers-trans dead dead (λ x h. h);
    })

-- ---- a fleet in which a change took effect

pub at_same : (k : ℕ) (host : Host Item) (hosts : ℕ → Host Item) → placed k host hosts k ≡ host
at_same k host hosts =
    let e : (k == k) ≡ true = grind arith in ap (λ (b : Bool). cond b host (hosts k)) e

module _ (w : Fleet Item) (k : ℕ) (i : Item) (held : List Item) where
  one_change : IsChangedTo w k held ((bridge_at w k).outbox ++ i ∷ []) (after covers w (Event.Changes k i held))
  one_change =
      let b : Bridge Item = changed (bridge_at w k) i held in
      let e : (after covers w (Event.Changes k i held)).hosts k ≡ record (w.hosts k) { bridge = b } =
      at_same k (record (w.hosts k) { bridge = b }) w.hosts in
      record {
        bridge = ap (λ (x : Host Item). x.bridge) e;
        producer = ap (λ (x : Host Item). x.producer) e;
        consumer = ap (λ (x : Host Item). x.consumer) e;
        server = refl;
        answered = refl;
      }

module _ (w u x : Fleet Item) (k : ℕ) (held outbox later more : List Item) where
  changed_on : IsChangedTo w k held outbox u → IsChangedTo u k later more x → IsChangedTo w k later more x
  changed_on f g = record {
    bridge = g.bridge ∙ ap (λ (b : Bridge Item). record b { held = later; outbox = more }) f.bridge;
    producer = g.producer ∙ f.producer;
    consumer = g.consumer ∙ f.consumer;
    server = g.server ∙ f.server;
    answered = g.answered ∙ f.answered;
  }

pub news_are_changes : NewsAreChanges
news_are_changes w k dead accepted [] e = (
  w,
  refl,
  record {
    bridge = ap (λ (l : List Item). record (bridge_at w k) { held = l }) (e ∙
        ap (λ (l : List Item). tops l ++ dead) (sym (append-nil accepted))) ∙
        ap (λ (l : List Item). record (bridge_at w k) { held = tops (accepted ++ []) ++ dead; outbox = l })
        (sym (append-nil (bridge_at w k).outbox));
    producer = refl;
    consumer = refl;
    server = refl;
    answered = refl;
  },
)
news_are_changes w k dead accepted (i ∷ items) e =
    let mid : List Item = tops (accepted ++ i ∷ []) ++ dead in
    let outbox : List Item = (bridge_at w k).outbox in
    let u : Fleet Item = after covers w (Event.Changes k i mid) in
    let one = one_change w k i mid in
    let joins : Joins covers mid (bridge_at w k).held (i ∷ []) =
    subst (λ (l : List Item). Joins covers mid l (i ∷ [])) (sym e) (more_joins dead accepted i) in
    let rest = news_are_changes u k dead (accepted ++ i ∷ []) items (ap (λ (b : Bridge Item). b.held) one.bridge) in
    let last : IsChangedTo u k (tops (accepted ++ i ∷ items) ++ dead) (outbox ++ i ∷ items) rest.0 =
    subst (λ (l : List Item). IsChangedTo u k (tops l ++ dead) (outbox ++ i ∷ items) rest.0) (append_assoc accepted (i ∷ []) items)
    (subst (λ (l : List Item). IsChangedTo u k (tops ((accepted ++ i ∷ []) ++ items) ++ dead) l rest.0)
    (ap (λ (b : Bridge Item). b.outbox ++ items) one.bridge ∙ append_assoc outbox (i ∷ []) items) rest.2) in (
      rest.0,
      (u, (joins, refl), rest.1),
      changed_on w u rest.0 k mid (outbox ++ i ∷ []) (tops (accepted ++ i ∷ items) ++ dead) (outbox ++ i ∷ items) one last,
    )
