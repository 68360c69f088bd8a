-- The worked rows.
use Rattle.std.proofs.Common.{◌≡◌, ◌⊎◌, ℕ, ◌≤◌, true, false, List, [], ◌∷◌, length, filter, Some, None, refl, ap, sym, ◌∙◌, subst, inl, inr}
use Rattle.std.proofs.Common.{arith, codes, Contains}
use Rattle.ds_names.specs.Endpoint.{endpoint_of}
use Rattle.ds_names.specs.Name.{is_name_byte, is_same_name, rs_name}
use Rattle.ds_entry.specs.Change.{ChangeRecord}
use Rattle.ds_entry.specs.Item.{IsItem, passes}
use Rattle.ds_entry.specs.ItemCovers.{covers, AreSingleNumbered}
use Rattle.ds_entry.specs.declared.body.Value.TheVariants.{Label, U32 as Number}
use Rattle.ds_entry.specs.declared.body.Body.TheVariants.{Put, Gone}
use Rattle.ds_entry.specs.declared.floor.Floor.{Floor}
use Rattle.ds_entry.specs.declared.item.Item.{Item}
use Rattle.ds_entry.specs.declared.item.Item.TheVariants.{Change as Changed, Floor as Floored}
use Rattle.ds_entry.proofs.Members.{Contains-nil, Contains-head, Contains-tail, Contains-single, Contains-cons, Contains-from_filter}
use Rattle.ds_join.specs.ItemTop.{IsTop}
use Rattle.ds_held.specs.Limits.{larger}
use Rattle.ds_pattern.specs.declared.query.Query.{Query}
use Rattle.ds_pattern.specs.Under.{is_under}
use Rattle.ds_join.proofs.ItemTopLemmas.{top_of_covered}
use Rattle.ds_replica.proofs.Samples.{top_of_one}
use Rattle.ds_replica.proofs.SentLemmas.{Contains-from_under, stood_wider}
use Rattle.ds_machine.specs.State.{State, takes_effect, opening}
use Rattle.ds_machine.specs.Machine.{Step, outcome}
use Rattle.ds_machine.specs.Reached.{AreExact}
use Rattle.ds_machine.specs.declared.command.Command.{Command}
use Rattle.ds_machine.specs.declared.command.Command.TheVariants.{Merge}
use Rattle.ds_machine.specs.declared.refusal.Refusal.{Refusal}
use Rattle.ds_machine.specs.declared.refusal.Refusal.TheVariants.{Clash}
use Rattle.ds_machine.specs.declared.reply.Reply.TheVariants.{Merged as AllMerged, MergeStopped}
use Rattle.ds_machine.proofs.PartLemmas.{changed_same}
use Rattle.ds_replica.proofs.HappenLemmas.{happen_then}
use Rattle.ds_replica.specs.declared.event.Side.{Side}
use Rattle.ds_replica.specs.declared.event.Event.TheVariants.{NewMap, Deliver}
use Rattle.ds_replica.specs.declared.event.Holder.TheVariants.{Map}
use Rattle.ds_replica.specs.declared.outcome.Outcome.TheVariants.{MapMade, Merged}
use Rattle.ds_replica.specs.World.{World, MapState, store_at, with_state, with_items}
use Rattle.ds_replica.specs.Happens.{Asks, ask_outcome, items_given, HappenAll}
use Rattle.ds_replica.specs.Delivery.{Tally, counting, StoreTakes, MapTakes}
use Rattle.ds_replica.specs.Known.{known_by}
use Rattle.ds_replica.specs.CaughtUp.{AreItems}
use Rattle.ds_replica.specs.Rows.{fresh_world, driver_label, floor, irq, one, other, later, ended, renewed, OwnersChange, contradicted}
use Rattle.ds_replica.specs.Rows.{with_both, with_other, AsksFor, ReplicasConverge}
use Rattle.ds_replica.specs.Rows.{ReplicasDiffer, MapCatchesUp, MapLags, MapLeads, MapsCatchUp, MapsLag, MapsLead, ReplicasClash}
use Rattle.ds_replica.specs.Rows.{MapClashes, MapsClash}
use Rattle.ds_names.specs.Limits.{most_items}
use Rattle.ds_names.specs.Key.{label_key}
use Rattle.ds_entry.specs.Under.{under}

-- ---- what takes part
one_change : (c : ChangeRecord) → AreSingleNumbered (Changed c ∷ [])
one_change c =
    record {
      one_change = λ d e h k q v. is d h ∙ sym (is e k);
      one_owner = λ d e h k q.
          ap (λ (x : ChangeRecord). x.owner) (is d h ∙ sym (is e k));
    }
  where
    is : (d : ChangeRecord) → Contains (Changed c ∷ []) (Changed d) → d ≡ c
    is d h = changed_same d c (Contains-single (Changed c) (Changed d) h)

-- a floor beside a change
beside : (f : Floor) (c : ChangeRecord) → AreSingleNumbered (Floored f ∷ Changed c ∷ [])
beside f c =
    record {
      one_change = λ d e h k q v. is d h ∙ sym (is e k);
      one_owner = λ d e h k q.
          ap (λ (x : ChangeRecord). x.owner) (is d h ∙ sym (is e k));
    }
  where
    is : (d : ChangeRecord) → Contains (Floored f ∷ Changed c ∷ []) (Changed d) → d ≡ c
    is d h = elim (Contains-cons (Floored f) (Changed c ∷ []) (Changed d) h)
        [ inl e ↦ absurd (let q : Changed d ≡ Floored f = e in cc) | inr k ↦ changed_same d c (Contains-single (Changed c) (Changed d) k) ]

-- of items that were done, and of those that were taken
abbrev done : ℕ → ℕ → Tally
done count taken = record { count = counting count taken 0; owed = 0; stop = None }

few_there : (i : Item) (group : List Item) → Contains ((i ∷ []) ∷ []) group → length group ≤ most_items
few_there i group h = subst (λ (l : List Item). length l ≤ most_items) (sym (Contains-single (i ∷ []) group h)) (omega arith)

-- one item goes to a store, as a Merge of its own
stored : (s : State) (i : Item) → Step s (Merge (i ∷ [])) (AllMerged 1 1 0 0) (takes_effect s (i ∷ [])) →
    StoreTakes s (i ∷ []) (done 1 1) (takes_effect s (i ∷ []))
stored s i step = record {
  groups = (i ∷ []) ∷ [];
  all = refl;
  few = few_there i;
  merged = (AllMerged 1 1 0 0, takes_effect s (i ∷ []), step, (done 0 0, (refl, refl), refl));
}

-- a store that gets a command makes a step
does : (w : World) (side : Side) (command : Command) →
    let out = outcome (store_at w side) command in
    Asks w side command (ask_outcome w out.0 (items_given out.0)) (with_items (with_state w side out.1) (items_given out.0))
does w side command = record {
  reply = (outcome (store_at w side) command).0;
  after = (outcome (store_at w side) command).1;
  step = inl (inl (record { reply_is = refl; state_is = refl }));
  outcome_is = refl;
  world_is = refl;
}

-- ---- two replicas
after_publish : State
after_publish = takes_effect (opening 1 0 4 larger) (driver_label ∷ [])

pub replicas_differ : ReplicasDiffer
unfolding after_publish
replicas_differ = record {
  world = record fresh_world { a = after_publish };
  happen = (record fresh_world { a = after_publish }, (refl, does _ _ _), refl);
  numbers = one_change _;
  differ = λ e. (let n : driver_label ∷ [] ≡ [] = e in cc);
}

delivered : World
delivered =
    record fresh_world
    { a = after_publish; b = takes_effect (opening 2 0 4 larger) (driver_label ∷ []); messages = (driver_label ∷ []) ∷ [] }

pub replicas_converge : ReplicasConverge
unfolding after_publish delivered
replicas_converge = record {
  world = delivered;
  happen = (
    record fresh_world { a = after_publish },
    (refl, does _ _ _),
    (
      record fresh_world { a = after_publish; messages = (driver_label ∷ []) ∷ [] },
      (refl, does _ _ _),
      (
        delivered,
        (
          refl,
          record {
            items = driver_label ∷ [];
            there = refl;
            tally = done 1 1;
            taken = record {
              after = takes_effect (opening 2 0 4 larger) (driver_label ∷ []);
              takes = stored (opening 2 0 4 larger) driver_label
                  (inl (inl (record { reply_is = refl; state_is = refl })));
              world_is = refl;
            };
            outcome_is = refl;
          },
        ),
        refl,
      ),
    ),
  );
  numbers = one_change _;
  same = record { there = λ i h. h; here = λ i h. h };
  held = refl;
}

-- ---- a map
both : List Item
both = floor ∷ driver_label ∷ []

-- what was brought in keeps the rules
floor_is : IsItem floor
unfolding is_name_byte
floor_is = record { owner = record { some = omega arith; limit = omega arith; allowed = refl }; generation = omega arith }

driver_is : IsItem driver_label
unfolding is_name_byte
driver_is = record {
  name = record { some = omega arith; limit = omega arith; allowed = refl };
  owner = record { some = omega arith; limit = omega arith; allowed = refl };
  epoch = omega arith;
  seq = omega arith;
  body = record { generation = omega arith; slot = omega arith };
  kind = refl;
  rule = record { owner = refl; name = λ e. (let n : codes "eth0" ≡ codes "rs" = e in cc); epoch = omega arith; body = (refl, refl) };
}

both_are : AreItems both
unfolding both
both_are i h = elim (Contains-cons floor (driver_label ∷ []) i h)
    [ inl e ↦ subst IsItem (sym e) floor_is | inr k ↦ subst IsItem (sym (Contains-single driver_label i k)) driver_is ]

-- they are the top of themselves
itself : IsTop both both
unfolding both
itself = top_of_one rs_name (floor ∷ driver_label ∷ []) (tt, (refl, tt))

-- none of them is gone
still_put : {P Q : ChangeRecord → Type 0} →
    ((d : ChangeRecord) × Contains (floor ∷ driver_label ∷ []) (Changed d) × P d × (d.body ≡ Gone) × Q d) → ⊥
still_put {P} {Q} g =
    elim (Contains-cons floor (driver_label ∷ []) (Changed g.0) g.1) [
      | inl e ↦ (let q : Changed g.0 ≡ floor = e in cc)
      | inr k ↦ (let b : g.0.body ≡ Put (Label (endpoint_of 3 17)) =
          ap (λ (c : ChangeRecord). c.body) (changed_same g.0 _ (Contains-single driver_label (Changed g.0) k)) in
          let n : Gone ≡ Put (Label (endpoint_of 3 17)) = sym g.3 ∙ b in cc)
    ]

module _ (query : Query) (asks : AsksFor query (label_key (codes "eth0"))) where
  abbrev map_with : List Item → MapState
  map_with held = record { query = query; held = held }

  abbrev told_at : ℕ → State
  told_at incarnation = takes_effect (opening incarnation 0 4 larger) (floor ∷ driver_label ∷ [])

  abbrev swept_at : ℕ → State
  swept_at incarnation = takes_effect (opening incarnation 0 4 larger) (floor ∷ [])

  abbrev made : World
  made = record fresh_world { maps = map_with [] ∷ [] }

  abbrev at_a : World
  at_a = record made { a = told_at 1 }

  abbrev at_b : World
  at_b = record made { b = told_at 2 }

  abbrev sends : World → World
  sends w = record w { messages = (floor ∷ driver_label ∷ []) ∷ [] }

  abbrev arrived : World → World
  arrived w = record w { maps = map_with (floor ∷ driver_label ∷ []) ∷ [] }

  -- all of both is under the query
  under_it : under (is_under query) (floor ∷ driver_label ∷ []) ≡ floor ∷ driver_label ∷ []
  under_it = simp asks.asked

  taken_top : IsTop (floor ∷ driver_label ∷ []) (under (is_under query) (floor ∷ driver_label ∷ []))
  unfolding both
  taken_top = subst (IsTop (floor ∷ driver_label ∷ [])) (sym under_it) itself

  takes : MapTakes (map_with []) (floor ∷ driver_label ∷ []) (done 2 2) (map_with (floor ∷ driver_label ∷ []))
  takes = record { query = refl; top = taken_top; counted = omega arith; owed = refl; ends = refl }

  lags : MapLags query
  unfolding both
  lags = record {
    world = at_a;
    happen = (
      made,
      (asks.read, record { outcome_is = refl; world_is = refl }),
      (
        record made { a = swept_at 1 },
        (refl, does _ _ _),
        (at_a, (refl, does _ _ _), refl),
      ),
    );
    numbers = beside _ _;
    items = both_are;
    nothing_else = λ i h. absurd (Contains-nil i h);
    differ = λ q. (let n : [] ≡ under (is_under query) (floor ∷ driver_label ∷ []) = q in cc under_it);
    older = λ g. still_put (g _ (Contains-tail floor (driver_label ∷ []) driver_label (Contains-head driver_label [])) refl);
  }

  catches_up : MapCatchesUp query
  unfolding both
  catches_up = record {
    world = arrived (sends at_a);
    happen = (
      made,
      (asks.read, record { outcome_is = refl; world_is = refl }),
      (
        record made { a = swept_at 1 },
        (refl, does _ _ _),
        (
          at_a,
          (refl, does _ _ _),
          (
            sends at_a,
            (refl, does _ _ _),
            (
              arrived (sends at_a),
              (
                refl,
                record {
                  items = floor ∷ driver_label ∷ [];
                  there = refl;
                  tally = done 2 2;
                  taken = record
                      { old = map_with []; there = refl; after = map_with (floor ∷ driver_label ∷ []); takes = takes; world_is = refl };
                  outcome_is = refl;
                },
              ),
              refl,
            ),
          ),
        ),
      ),
    );
    numbers = beside _ _;
    items = both_are;
    all = record { there = refl; whole = λ i h. (Contains-from_under (is_under query) (floor ∷ driver_label ∷ []) i h).0 };
    nothing_else = λ i h. stood_wider (filter (λ s. passes (is_under query) s.item) (with_both query).taken) (with_both query).taken
        (λ s k. (Contains-from_filter (λ s. passes (is_under query) s.item) (with_both query).taken s k).0) i
        (Contains-from_under (is_under query) (known_by (with_both query)) i h).0;
    held = refl;
    named = refl;
  }

  leads : MapLeads query
  unfolding both
  leads = record {
    world = arrived (sends at_b);
    happen = (
      made,
      (asks.read, record { outcome_is = refl; world_is = refl }),
      (
        record made { b = swept_at 2 },
        (refl, does _ _ _),
        (
          at_b,
          (refl, does _ _ _),
          (
            sends at_b,
            (refl, does _ _ _),
            (
              arrived (sends at_b),
              (
                refl,
                record {
                  items = floor ∷ driver_label ∷ [];
                  there = refl;
                  tally = done 2 2;
                  taken = record
                      { old = map_with []; there = refl; after = map_with (floor ∷ driver_label ∷ []); takes = takes; world_is = refl };
                  outcome_is = refl;
                },
              ),
              refl,
            ),
          ),
        ),
      ),
    );
    numbers = beside _ _;
    items = both_are;
    all = record { there = refl; whole = λ i h. absurd (Contains-nil i h) };
    differ = λ q. (let n : floor ∷ driver_label ∷ [] ≡ [] = q in cc);
    older = λ l. Contains-nil _ l.put.1;
  }

pub maps_catch_up : MapsCatchUp
maps_catch_up query asks = catches_up query asks

pub maps_lag : MapsLag
maps_lag query asks = lags query asks

pub maps_lead : MapsLead
maps_lead query asks = leads query asks

-- ---- two replicas whose messages contradict each other
-- a list of two, in the opposite order
swapped : (x y i : Item) → Contains (x ∷ y ∷ []) i → Contains (y ∷ x ∷ []) i
swapped x y i h = elim (Contains-cons x (y ∷ []) i h) [
  | inl e ↦ subst (Contains (y ∷ x ∷ [])) (sym e) (Contains-tail y (x ∷ []) x (Contains-head x []))
  | inr k ↦ subst (Contains (y ∷ x ∷ [])) (sym (Contains-single y i k))
      (Contains-head y (x ∷ []))
]

-- what the two stores hold isn't the same
apart : other ∷ [] ≡ one ∷ [] → ⊥
apart q = let m : other ≡ one = cc in let e : Put (Number 11) ≡ Put (Number 9) = ap (λ (c : ChangeRecord). c.body) (changed_same _ _ m) in
    cc

abbrev clash : Refusal
clash = Clash (record { epoch = 3; seq = 0 })

-- or it stops there
abbrev clashed : Tally
clashed = record { count = counting 0 0 0; owed = 0; stop = Some clash }

stopped : (s : State) (i : Item) → Step s (Merge (i ∷ [])) (MergeStopped 0 clash 0) s → StoreTakes s (i ∷ []) clashed s
stopped s i step = record {
  groups = (i ∷ []) ∷ [];
  all = refl;
  few = few_there i;
  merged = (MergeStopped 0 clash 0, s, step, (refl, refl));
}

abbrev clashing : World
clashing =
    record fresh_world {
      a = takes_effect (opening 3 0 4 larger) (one ∷ []);
      b = takes_effect (opening 4 0 4 larger) (other ∷ []);
      messages =
          (one ∷ []) ∷ (other ∷ []) ∷ [];
    }

contradicted_happen : HappenAll fresh_world contradicted clashing
contradicted_happen = (
  record fresh_world { a = takes_effect (opening 1 0 4 larger) (one ∷ later ∷ []) },
  (refl, does _ _ _),
  (
    record fresh_world { a = takes_effect (opening 1 0 4 larger) (one ∷ later ∷ []); messages = (one ∷ []) ∷ [] },
    (refl, does _ _ _),
    (
      record fresh_world { a = opening 3 0 4 larger; messages = (one ∷ []) ∷ [] },
      (refl, record { outcome_is = refl; world_is = refl }),
      (
        record fresh_world
            { a = opening 3 0 4 larger; b = takes_effect (opening 2 0 4 larger) (other ∷ later ∷ []); messages = (one ∷ []) ∷ [] },
        (refl, does _ _ _),
        (
          record fresh_world {
            a = opening 3 0 4 larger;
            b = takes_effect (opening 2 0 4 larger) (other ∷ later ∷ []);
            messages =
                (one ∷ []) ∷ (other ∷ []) ∷ [];
          },
          (refl, does _ _ _),
          (
            record fresh_world { a = opening 3 0 4 larger; b = opening 4 0 4 larger; messages = (one ∷ []) ∷ (other ∷ []) ∷ [] },
            (refl, record { outcome_is = refl; world_is = refl }),
            (
              record fresh_world {
                a = takes_effect (opening 3 0 4 larger) (one ∷ []);
                b = opening 4 0 4 larger;
                messages =
                    (one ∷ []) ∷ (other ∷ []) ∷ [];
              },
              (
                refl,
                record {
                  items = one ∷ [];
                  there = refl;
                  tally = done 1 1;
                  taken = record {
                    after = takes_effect (opening 3 0 4 larger) (one ∷ []);
                    takes = stored (opening 3 0 4 larger) one (inl (inl (record { reply_is = refl; state_is = refl })));
                    world_is = refl;
                  };
                  outcome_is = refl;
                },
              ),
              (
                record fresh_world {
                  a = takes_effect (opening 3 0 4 larger) (one ∷ []);
                  b = takes_effect (opening 4 0 4 larger) (other ∷ []);
                  messages =
                      (one ∷ []) ∷ (other ∷ []) ∷ [];
                },
                (
                  refl,
                  record {
                    items = other ∷ [];
                    there = refl;
                    tally = done 1 1;
                    taken = record {
                      after = takes_effect (opening 4 0 4 larger) (other ∷ []);
                      takes = stored (opening 4 0 4 larger) other
                          (inl (inl (record { reply_is = refl; state_is = refl })));
                      world_is = refl;
                    };
                    outcome_is = refl;
                  },
                ),
                refl,
              ),
            ),
          ),
        ),
      ),
    ),
  ),
)

pub replicas_clash : ReplicasClash
replicas_clash = record {
  world = clashing;
  happen = contradicted_happen;
  same = record { there = swapped one other; here = swapped other one };
  differ = λ q. apart (sym q);
  stops = (
    refl,
    record {
      items = other ∷ [];
      there = refl;
      tally = clashed;
      taken = record {
        after = takes_effect (opening 3 0 4 larger) (one ∷ []);
        takes = stopped (takes_effect (opening 3 0 4 larger) (one ∷ [])) other
            (inl (inl (record { reply_is = refl; state_is = refl })));
        world_is = refl;
      };
      outcome_is = refl;
    },
  );
}

module _ (query : Query) (asks : AsksFor query irq) where
  abbrev map_of : List Item → MapState
  map_of held = record { query = query; held = held }

  -- each is under the query
  under_one : under (is_under query) (one ∷ []) ≡ one ∷ []
  under_one = simp asks.asked

  under_other : under (is_under query) (other ∷ []) ≡ other ∷ []
  under_other = simp asks.asked

  other_top : IsTop (other ∷ []) (under (is_under query) (other ∷ []))
  other_top = subst (IsTop (other ∷ [])) (sym under_other) (top_of_covered other (other ∷ []) (Contains-head other []))

  clashes : MapClashes query
  clashes = record {
    world = record clashing { maps = map_of (other ∷ []) ∷ [] };
    happen = happen_then contradicted ((NewMap query, MapMade 0) ∷ (Deliver 1 (Map 0) None, Merged (counting 1 1 0) 0) ∷ []) fresh_world
        clashing (record clashing { maps = map_of (other ∷ []) ∷ [] }) contradicted_happen (
          record clashing { maps = map_of [] ∷ [] },
          (asks.read, record { outcome_is = refl; world_is = refl }),
          (
            record clashing { maps = map_of (other ∷ []) ∷ [] },
            (
              refl,
              record {
                items = other ∷ [];
                there = refl;
                tally = done 1 1;
                taken = record {
                  old = map_of [];
                  there = refl;
                  after = map_of (other ∷ []);
                  takes = record { query = refl; top = other_top; counted = omega arith; owed = refl; ends = refl };
                  world_is = refl;
                };
                outcome_is = refl;
              },
            ),
            refl,
          ),
        );
    all = record { there = refl; whole = λ i h. Contains-tail other (one ∷ []) i (Contains-from_under (is_under query) (one ∷ []) i h).0 };
    nothing_else = λ i h. swapped other one i
        (stood_wider (filter (λ s. passes (is_under query) s.item) (with_other query).taken) (with_other query).taken
        (λ s k. (Contains-from_filter (λ s. passes (is_under query) s.item) (with_other query).taken s k).0) i
        (Contains-from_under (is_under query) (known_by (with_other query)) i h).0);
    differ = λ q. apart (q ∙ under_one);
  }

pub maps_clash : MapsClash
maps_clash query asks = clashes query asks

-- ---- a key that returns with another owner
abbrev all_three : List Item
all_three = one ∷ ended ∷ renewed ∷ []

-- it is one of the three
three_cases : (i : Item) → Contains all_three i → (i ≡ one) ⊎ ((i ≡ ended) ⊎ (i ≡ renewed))
three_cases i h = elim (Contains-cons one (ended ∷ renewed ∷ []) i h) [
  | inl e ↦ inl e
  | inr k ↦ elim (Contains-cons ended (renewed ∷ []) i k) [ inl e ↦ inr (inl e) | inr l ↦ inr (inr (Contains-single renewed i l)) ]
]

-- two of them that cover each other are one
three_exact : AreExact all_three
three_exact i j h k e f = by_cases (three_cases i h) (three_cases j k)
  where
    forth : (x y : Item) → i ≡ x → j ≡ y → covers y x ≡ true
    forth x y p q = subst (λ z. covers z x ≡ true) q (subst (λ z. covers j z ≡ true) p e)

    back : (x y : Item) → i ≡ x → j ≡ y → covers x y ≡ true
    back x y p q = subst (λ z. covers x z ≡ true) q (subst (λ z. covers z j ≡ true) p f)

    by_cases : (i ≡ one) ⊎ ((i ≡ ended) ⊎ (i ≡ renewed)) → (j ≡ one) ⊎ ((j ≡ ended) ⊎ (j ≡ renewed)) → i ≡ j
    by_cases (inl p) (inl q) = p ∙ sym q
    by_cases (inl p) (inr (inl q)) = absurd (let n : false ≡ true = back one ended p q in cc)
    by_cases (inl p) (inr (inr q)) = absurd (let n : false ≡ true = back one renewed p q in cc)
    by_cases (inr (inl p)) (inl q) = absurd (let n : false ≡ true = forth ended one p q in cc)
    by_cases (inr (inl p)) (inr (inl q)) = p ∙ sym q
    by_cases (inr (inl p)) (inr (inr q)) = absurd (let n : false ≡ true = forth ended renewed p q in cc)
    by_cases (inr (inr p)) (inl q) = absurd (let n : false ≡ true = forth renewed one p q in cc)
    by_cases (inr (inr p)) (inr (inl q)) = absurd (let n : false ≡ true = back renewed ended p q in cc)
    by_cases (inr (inr p)) (inr (inr q)) = p ∙ sym q

-- but a key among them has two owners
names_differ : codes "eth0" ≡ codes "eth1" → true ≡ false
names_differ same = ap (is_same_name (codes "eth0")) same

not_same : true ≡ false → ⊥
not_same e = cc

two_owners : ¬ AreSingleNumbered all_three
two_owners n =
    let first = Contains-head one (ended ∷ renewed ∷ []) in
    let last = Contains-tail one (ended ∷ renewed ∷ []) renewed (Contains-tail ended (renewed ∷ []) renewed (Contains-head renewed [])) in
    not_same (names_differ (n.one_owner _ _ first last refl))

-- two items go to a store, as one Merge
abbrev both_renewed : List Item
both_renewed = ended ∷ renewed ∷ []

stored_both : (s : State) → Step s (Merge both_renewed) (AllMerged 2 2 0 0) (takes_effect s both_renewed)
    → StoreTakes s both_renewed (done 2 2) (takes_effect s both_renewed)
stored_both s step = record {
  groups = both_renewed ∷ [];
  all = refl;
  few = λ group h. subst (λ (l : List Item). length l ≤ most_items) (sym (Contains-single both_renewed group h)) (omega arith);
  merged = (AllMerged 2 2 0 0, takes_effect s both_renewed, step, (done 0 0, (refl, refl), refl));
}

abbrev first_told : State
first_told = takes_effect (opening 1 0 4 larger) all_three

abbrev then_told : State
then_told = takes_effect (opening 2 0 4 larger) both_renewed

pub owners_change : OwnersChange
owners_change = record {
  world = record fresh_world { a = first_told; b = then_told; messages = both_renewed ∷ [] };
  happen = (
    record fresh_world { a = first_told },
    (refl, does _ _ _),
    (
      record fresh_world { a = first_told; messages = both_renewed ∷ [] },
      (refl, does _ _ _),
      (
        record fresh_world { a = first_told; b = then_told; messages = both_renewed ∷ [] },
        (
          refl,
          record {
            items = both_renewed;
            there = refl;
            tally = done 2 2;
            taken =
                record {
                  after = then_told;
                  takes = stored_both (opening 2 0 4 larger) (inl (inl (record { reply_is = refl; state_is = refl })));
                  world_is = refl;
                };
            outcome_is = refl;
          },
        ),
        refl,
      ),
    ),
  );
  exact = three_exact;
  owners = two_owners;
  same = record { there = λ i h. h; here = λ i h. h };
  held = refl;
}
