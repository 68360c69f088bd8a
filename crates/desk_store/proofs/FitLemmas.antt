-- The items of a check fit into a map that follows.
use Rattle.std.proofs.Common.{◌≡◌, ◌≢◌, ◌⊎◌, ℕ, ◌+◌, ◌<◌, ◌≤◌, Bool, true, false, List, ◌++◌, take, Option, Some, None, Ok, Err, Contains}
use Rattle.std.proofs.Common.{refl, ap, sym, ◌∙◌, subst, inl, inr, arith}
use Rattle.std.specs.Prelude.{slice_get}
use Rattle.std.specs.declared.cmp.Ordering.TheVariants.{Equal}
use Rattle.std.proofs.lemmas.Cmp.{tied_itself}
use Rattle.std.proofs.lemmas.Option.{get_or_from_slice_get, slice_get_within}
use Rattle.std.proofs.lemmas.List.Kept.{IsStrictlySortedBy-filter}
use Rattle.std.proofs.lemmas.List.Elements.{Contains-append_left, Contains-append_right, Contains-append_cases}
use Rattle.std.proofs.lemmas.Map.Lookups.{exact_bytes}
use Rattle.ds_names.specs.declared.key.Key.{Key}
use Rattle.ds_names.specs.Key.{key_cmp}
use Rattle.ds_names.proofs.OrderLemmas.{exact_keys, keys_total}
use Rattle.ds_entry.specs.declared.body.Body.{Body}
use Rattle.ds_entry.specs.declared.floor.Floor.{Floor}
use Rattle.ds_entry.specs.declared.item.Item.{Item}
use Rattle.ds_entry.specs.declared.item.Item.TheVariants.{Change as Changed, Floor as Floored}
use Rattle.ds_entry.specs.Change.{ChangeRecord}
use Rattle.ds_entry.specs.Covers.{is_at_most}
use Rattle.ds_entry.specs.Item.{item_cmp, passes}
use Rattle.ds_entry.specs.ItemCovers.{covers}
use Rattle.ds_entry.specs.Under.{under}
use Rattle.ds_entry.specs.Void.{voids}
use Rattle.ds_entry.proofs.CoversLemmas.{covers-key, covers-make, covers-owner, covers-tied as change_tied, is_at_most-refl}
use Rattle.ds_entry.proofs.ItemLemmas.{covers-tied, covers-trans, items_total}
use Rattle.ds_entry.proofs.Members.{Contains-filter, Contains-from_filter, Contains-from_take}
use Rattle.ds_entry.proofs.OrderedLemmas.{tied_once}
use Rattle.ds_join.specs.ItemTop.{IsTop}
use Rattle.ds_join.specs.declared.merge.JoinFault.{JoinFault}
use Rattle.ds_join.specs.declared.merge.JoinFault.TheVariants.{NotOwner, Clash, Full, NoRoom}
use Rattle.ds_join.specs.declared.merge.Merge.TheVariants.{Stale}
use Rattle.ds_held.specs.Held.{Holding, floor_count, floor_for, held_count, held_for, held_items, is_void_at}
use Rattle.ds_held.specs.Limits.{LimitsRecord}
use Rattle.ds_held.specs.Merge.{AnswersFor, IsMergeRefused}
use Rattle.ds_held.specs.Raise.{AnswersFloor}
use Rattle.ds_held.proofs.HeldLemmas.{change_in, is_held}
use Rattle.ds_pattern.specs.declared.query.Query.{Query}
use Rattle.ds_pattern.specs.Under.{is_under}
use Rattle.ds_machine.specs.Subscription.{is_unseen}
use Rattle.ds_machine.specs.State.{State, held, unseen}
use Rattle.ds_machine.specs.Machine.{Step}
use Rattle.ds_machine.specs.Reached.{IsReached}
use Rattle.ds_machine.specs.Within.{IsWithin}
use Rattle.ds_machine.specs.declared.command.Command.TheVariants.{Check}
use Rattle.ds_machine.specs.declared.reply.Reply.TheVariants.{Checked}
use Rattle.ds_machine.proofs.CountLemmas.{change_weight, changes_total, floor_weight, floors_total, total}
use Rattle.ds_machine.proofs.PlaceLemmas.{checked_leaves}
use Rattle.ds_machine.proofs.ReachedLemmas.{held_is_top}
use Rattle.ds_content.proofs.HoldingLemmas.{changes_counted, floors_counted}
use Rattle.desk_store.specs.Following.{FollowsStore}
use Rattle.desk_store.specs.MapLaws.{ChecksFit, TookFirst}
use Rattle.desk_store.proofs.CountLemmas.{lighter, stands_in_front}

-- the body of a change, and of a floor this one
abbrev body_or : Body → Item → Body
body_or b (Changed c) = c.body
body_or b (Floored f) = b

module _ (s t : State) (sub : ℕ) (query : Query) (stamp max before after : ℕ) (items : List Item) (old new : Holding) (n : ℕ) (next : Item)
    (reached : IsReached s) (within : IsWithin s)
    (follows : FollowsStore s sub query stamp (held_items old)) (step : Step s (Check sub max) (Checked items before after) t)
    (took : TookFirst query old new items n) (at : slice_get items n ≡ Some next) where
  all : IsTop (held s) s.feed.accepted
  all = held_is_top s reached

  items_are : items ≡ take max (unseen s follows.seer)
  items_are = (checked_leaves s t sub max follows.seer items before after reached follows.here step).items_are

  item_held : (i : Item) → Contains items i → Contains (held s) i
  item_held i h =
      (Contains-from_filter (is_unseen follows.seer.query follows.seer.shown) (held s) i
      (Contains-from_take max (unseen s follows.seer) i (subst (λ (l : List Item). Contains l i) items_are h))).0

  next_held : Contains (held s) next
  next_held = item_held next (n, slice_get_within items n next at, get_or_from_slice_get items n next next at)

  accepted : (i : Item) → Contains (held_items new) i → Contains s.feed.accepted i
  accepted i h = elim (Contains-append_cases (held_items old) (under (is_under query) (take n items)) i (took.top.among i h)) [
    | inl k ↦ (Contains-from_filter (passes (is_under query)) s.feed.accepted i (follows.given i k)).0
    | inr k ↦ all.among i (item_held i (Contains-from_take n items i
        ((Contains-from_filter (passes (is_under query)) (take n items) i k).0)))
  ]

  covered : (i : Item) → Contains (held_items new) i → (j : Item) × Contains (held s) j × (covers j i ≡ true)
  covered i h = all.greatest i (accepted i h)

  -- ---- a floor: those in the map are fewer than those held
  floor_match : (x : Item) → Contains (held_items new) x →
      (floor_weight x ≡ 0) ⊎ ((y : Item) × Contains (held s) y × (item_cmp x y ≡ Equal) × (floor_weight x ≤ floor_weight y))
  unfolding floor_weight
  floor_match (Changed c) h = inl refl
  floor_match (Floored f) h = by_cover (covered (Floored f) h)
    where
      by_cover : (j : Item) × Contains (held s) j × (covers j (Floored f) ≡ true) →
          (floor_weight (Floored f) ≡ 0) ⊎ ((y : Item) × Contains (held s) y × (item_cmp (Floored f) y ≡ Equal) ×
          (floor_weight (Floored f) ≤ floor_weight y))
      by_cover (Changed d, k, q) = absurd (let no : false ≡ true = q in cc)
      by_cover (Floored g, k, q) = inr (
        Floored g,
        k,
        covers-tied (Floored g) (Floored f)
            (λ z c e r. absurd (let no : floor_weight (Floored f) ≡ floor_weight (Changed c) = ap floor_weight r in let v : 1 ≡ 0 = no in
            cc)) q,
        omega arith,
      )

  module _ (f : Floor) (next_is : next ≡ Floored f) where
    floor_room : floor_for new f.owner ≡ None → floor_count new < 64
    unfolding floor_weight
    floor_room none =
        let few : total floor_weight (held_items new) + 1 ≤ total floor_weight (held s) =
        lighter floor_weight (held_items new) (held s) (Floored f) took.top.in_order all.in_order floor_match
        (subst (λ (i : Item). Contains (held s) i) next_is next_held) never in
        omega (arith, few, within.floors, floors_total (held s), floors_total (held_items new), floors_counted new)
      where
        never : (x : Item) → Contains (held_items new) x → item_cmp x (Floored f) ≡ Equal → floor_weight x ≡ 0
        never (Changed c) h q = refl
        never (Floored g) h q =
            let same : g.owner ≡ f.owner = exact_bytes g.owner f.owner q in
            let here : floor_for new g.owner ≡ Some g.generation = is_held new took.sound (Floored g) h in
            let v : None ≡ Some g.generation = sym none ∙ ap (λ (o : List ℕ). floor_for new o) (sym same) ∙ here in
            absurd (cc)

    floor_fits : (fault : JoinFault) (o : Option ℕ) → floor_for new f.owner ≡ o →
        AnswersFloor o (floor_count new) f.generation (Err fault) → fault ≡ NoRoom
    floor_fits fault (Some g) is a = absurd a
    floor_fits NotOwner None is a = absurd a
    floor_fits (Clash v) None is a = absurd a
    floor_fits Full None is a = let room = floor_room is in let count : floor_count new ≡ 64 = a in absurd (omega (arith, room, count))
    floor_fits NoRoom None is a = refl

  -- ---- a change: the held floors are in the map, so none of its changes is void
  module _ (c : ChangeRecord) (next_is : next ≡ Changed c) where
    here : Contains (held s) (Changed c)
    here = subst (λ (i : Item). Contains (held s) i) next_is next_held

    in_both : (f : Floor) → Contains (held s) (Floored f) → Contains (held_items old ++ under (is_under query) (take n items)) (Floored f)
    in_both f h = by_test (is_unseen follows.seer.query follows.seer.shown (Floored f)) refl
      where
        by_test : (b : Bool) → is_unseen follows.seer.query follows.seer.shown (Floored f) ≡ b →
            Contains (held_items old ++ under (is_under query) (take n items)) (Floored f)
        by_test false e =
            Contains-append_left (held_items old) (under (is_under query) (take n items)) (Floored f)
            (follows.has (Floored f) h refl (subst (λ (q : Query). is_unseen q follows.seer.shown (Floored f) ≡ false) follows.query_is e))
        by_test true e =
            let there = Contains-filter (is_unseen follows.seer.query follows.seer.shown) (held s) (Floored f) h e in
            let sorted = IsStrictlySortedBy-filter item_cmp (is_unseen follows.seer.query follows.seer.shown) (held s) all.in_order in
            let front = stands_in_front max n (unseen s follows.seer) (Floored f) (Changed c) sorted there
            (subst (λ (l : List Item). slice_get l n ≡ Some (Changed c)) items_are (at ∙ ap (λ (i : Item). Some i) next_is)) refl in
            Contains-append_right (held_items old) (under (is_under query) (take n items)) (Floored f)
            (Contains-filter (passes (is_under query)) (take n items) (Floored f)
            (subst (λ (l : List Item). Contains (take n l) (Floored f)) (sym items_are) front) refl)

    not_void : (d : ChangeRecord) → Contains (held_items new) (Changed d) → (f : Floor) → Contains (held s) (Floored f) →
        voids f d ≡ true → ⊥
    not_void d h f k v = by_cover (took.top.greatest (Floored f) (in_both f k))
      where
        by_cover : (j : Item) × Contains (held_items new) j × (covers j (Floored f) ≡ true) → ⊥
        by_cover (Changed e, m, q) = absurd (let no : false ≡ true = q in cc)
        by_cover (Floored g, m, q) =
            let is : voids g d ≡ true = covers-trans (Floored g) (Floored f) (Changed d) q v in
            let isnt : voids g d ≡ false = took.top.none_void g d m h in
            absurd (let no : false ≡ true = sym isnt ∙ is in cc)

    -- so each is covered by a held change
    held_above : (d : ChangeRecord) → Contains (held_items new) (Changed d) →
        (e : ChangeRecord) × Contains (held s) (Changed e) × (covers (Changed e) (Changed d) ≡ true)
    held_above d h = by_cover (covered (Changed d) h)
      where
        by_cover : (j : Item) × Contains (held s) j × (covers j (Changed d) ≡ true) →
            (e : ChangeRecord) × Contains (held s) (Changed e) × (covers (Changed e) (Changed d) ≡ true)
        by_cover (Changed e, k, q) = (e, k, q)
        by_cover (Floored f, k, q) = absurd (not_void d h f k q)

    -- that of the key by this one
    covers_it : (d : ChangeRecord) → Contains (held_items new) (Changed d) → d.key ≡ c.key → covers (Changed c) (Changed d) ≡ true
    covers_it d h key =
        let e = held_above d h in
        let same_key : e.0.key ≡ c.key = sym (covers-key e.0 d e.2) ∙ key in
        let tie : item_cmp (Changed e.0) (Changed c) ≡ Equal =
        subst (λ (k : Key). key_cmp e.0.key k ≡ Equal) same_key (tied_itself keys_total e.0.key) in
        let same : Changed e.0 ≡ Changed c = tied_once item_cmp items_total (held s) (Changed e.0) (Changed c) all.in_order e.1 here tie in
        subst (λ (i : Item). covers i (Changed d) ≡ true) same e.2

    change_match : (x : Item) → Contains (held_items new) x →
        (change_weight x ≡ 0) ⊎ ((y : Item) × Contains (held s) y × (item_cmp x y ≡ Equal) × (change_weight x ≤ change_weight y))
    unfolding change_weight
    change_match (Floored f) h = inl refl
    change_match (Changed d) h = let m = held_above d h in inr (Changed m.0, m.1, change_tied m.0 d m.2, omega arith)

    change_room : held_for new c.key ≡ None → held_count new < 4096
    unfolding change_weight
    change_room none =
        let few : total change_weight (held_items new) + 1 ≤ total change_weight (held s) =
        lighter change_weight (held_items new) (held s) (Changed c) took.top.in_order all.in_order change_match here never in
        omega (arith, few, within.keys, bound, changes_total (held s), changes_total (held_items new), changes_counted new)
      where
        bound : s.limits.keys ≤ 4096
        bound = elim reached.limits [
          | inl e ↦ (let k : s.limits.keys ≡ 1024 = ap (λ (x : LimitsRecord). x.keys) e in omega (arith, k))
          | inr e ↦ (let k : s.limits.keys ≡ 4096 = ap (λ (x : LimitsRecord). x.keys) e in omega (arith, k))
        ]

        never : (x : Item) → Contains (held_items new) x → item_cmp x (Changed c) ≡ Equal → change_weight x ≡ 0
        never (Floored f) h q = refl
        never (Changed d) h q =
            let same : d.key ≡ c.key = exact_keys d.key c.key q in
            let there : held_for new d.key ≡ Some d = is_held new took.sound (Changed d) h in
            let v : None ≡ Some d = sym none ∙ ap (λ (k : Key). held_for new k) (sym same) ∙ there in
            absurd (cc)

    -- what is held for its key: it has its owner, and no other body in its version
    module _ (d : ChangeRecord) (is : held_for new c.key ≡ Some d) where
      there : Contains (held_items new) (Changed d)
      there = change_in new c.key d is

      above : covers (Changed c) (Changed d) ≡ true
      above = covers_it d there (took.sound.own c.key d is)

      owned : d.owner ≡ c.owner
      owned = covers-owner c d above

      same_body : d.version ≡ c.version → d.body ≡ c.body
      same_body version =
          let back : covers (Changed d) (Changed c) ≡ true =
          covers-make d c (sym (took.sound.own c.key d is)) (sym owned)
          (subst (λ v. is_at_most v d.version ≡ true) version (is_at_most-refl d.version)) in
          let same : Changed d ≡ Changed c = reached.exact (Changed d) (Changed c) (accepted (Changed d) there)
          (all.among (Changed c) here) above back in
          ap (body_or d.body) same

    -- so out-of-memory is the only refusal
    no_answer : (fault : JoinFault) → fault ≢ NoRoom → (o : Option ChangeRecord) (void : Bool) → held_for new c.key ≡ o →
        AnswersFor o void (held_count new) new.limits.keys c (Err fault) → ⊥
    no_answer fault never None true is a = let no : Err fault ≡ Ok Stale = a in cc
    no_answer NotOwner never None false is a = a
    no_answer (Clash v) never None false is a = a
    no_answer Full never None false is a =
        let room = change_room is in let count : held_count new ≡ new.limits.keys = a in
        omega (arith, room, count, ap (λ (l : LimitsRecord). l.keys) took.limits)
    no_answer NoRoom never None false is a = never refl
    no_answer fault never (Some d) true is (inr a) = let no : Err fault ≡ Ok Stale = a.1 in cc
    no_answer fault never (Some d) void is (inl a) = a.0 (owned d is)
    no_answer NotOwner never (Some d) false is (inr a) = a.1
    no_answer (Clash v) never (Some d) false is (inr a) = a.1.1 (same_body d is a.1.0)
    no_answer Full never (Some d) false is (inr a) = a.1
    no_answer NoRoom never (Some d) false is (inr a) = a.1

    change_fits : (fault : JoinFault) → IsMergeRefused new c fault → fault ≡ NoRoom
    change_fits NotOwner a = absurd (no_answer NotOwner (λ e. cc) (held_for new c.key) (is_void_at new c) refl a)
    change_fits (Clash v) a = absurd (no_answer (Clash v) (λ e. cc) (held_for new c.key) (is_void_at new c) refl a)
    change_fits Full a = absurd (no_answer Full (λ e. cc) (held_for new c.key) (is_void_at new c) refl a)
    change_fits NoRoom a = refl

pub checks_fit : ChecksFit
checks_fit s t sub query stamp max before after items old new n (Changed c) fault r w f step took at refused =
    change_fits s t sub query stamp max before after items old new n (Changed c) r w f step took at c refl fault refused
checks_fit s t sub query stamp max before after items old new n (Floored g) fault r w f step took at refused =
    floor_fits s t sub query stamp max before after items old new n (Floored g) r w f step took at g refl fault (floor_for new g.owner)
    refl refused
