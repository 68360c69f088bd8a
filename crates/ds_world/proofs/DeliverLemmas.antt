-- What a delivery does to a world.
use Rattle.std.proofs.Common.{◌≡◌, ℕ, zero, suc, ◌<◌, ◌≤◌, nat_lt, not, cond, List, [], ◌∷◌, length, take, Option, Some, None, is_some}
use Rattle.std.proofs.Common.{refl, ap, sym, ◌∙◌, subst, arith}
use Rattle.std.specs.List.{slice_get, slice_set}
use Rattle.std.specs.Option.{option_map, option_map_or}
use Rattle.std.proofs.lemmas.List.{map-set}
use Rattle.std.proofs.lemmas.Option.{slice_get_past}
use Rattle.ds_entry.specs.declared.item.Item.{Item}
use Rattle.ds_submap.specs.Map.{SubMapRecord}
use Rattle.ds_machine.specs.declared.refusal.Refusal.{Refusal}
use Rattle.ds_content.specs.Content.{ContentRecord}
use Rattle.ds_replica.specs.declared.event.Side.{Side}
use Rattle.ds_replica.specs.declared.event.Side.TheVariants.{A, B}
use Rattle.ds_replica.specs.declared.event.Holder.{Holder}
use Rattle.ds_replica.specs.declared.event.Holder.TheVariants.{Store, Map}
use Rattle.ds_replica.specs.declared.event.Event.{Event}
use Rattle.ds_replica.specs.declared.event.Event.TheVariants.{Deliver}
use Rattle.ds_replica.specs.declared.outcome.Outcome.{Outcome}
use Rattle.ds_replica.specs.declared.outcome.Outcome.TheVariants.{Refused}
use Rattle.ds_replica.specs.declared.outcome.EventFault.{EventFault}
use Rattle.ds_replica.specs.declared.outcome.EventFault.TheVariants.{NoMessage, NoMap, TooMany}
use Rattle.ds_replica.specs.Delivery.{Tally, MapTakes}
use Rattle.ds_replica.specs.World.{MapState, World, store_at, with_state}
use Rattle.ds_replica.specs.Happens.{count_of, delivery_fault, tally_outcome, Happens, Delivers}
use Rattle.ds_world.specs.World.{WorldRecord, map_state, kept_items, WorldStands}
use Rattle.ds_world.specs.Run.{EventLeads}
use Rattle.ds_world.specs.Told.{IsMapTold, IsStoreTold, IsTold, IsNoRoomLast}
use Rattle.ds_world.specs.Steps.{ItemsAreTaken}
use Rattle.ds_world.proofs.StandLemmas.{map_is, message_is, lt_false}
use Rattle.std.proofs.lemmas.Bool.{lt-ltb}

-- an event that leads from one value to another does so by whatever names they have
pub carried : {event event' : Event} {outcome outcome' : Outcome} {old old' new new' : WorldRecord} → event ≡ event' → outcome ≡ outcome' →
    old ≡ old' → new ≡ new' → EventLeads event outcome old new → EventLeads event' outcome' old' new'
carried {event' = event'} {outcome = outcome} {outcome' = outcome'} {old = old} {old' = old'} {new = new} e o was is leads =
    subst (λ (v : WorldRecord). EventLeads event' outcome' old' v) is
    (subst (λ (v : WorldRecord). EventLeads event' outcome' v new) was
    (subst (λ (x : Outcome). EventLeads event' x old new) o (subst (λ (x : Event). EventLeads x outcome old new) e leads)))

-- and reports the same
pub told_so : {event event' : Event} {outcome outcome' : Outcome} {old old' new new' : WorldRecord} → event ≡ event' → outcome ≡ outcome' →
    old ≡ old' → new ≡ new' → IsTold event outcome old new → IsTold event' outcome' old' new'
told_so {event' = event'} {outcome = outcome} {outcome' = outcome'} {old = old} {old' = old'} {new = new} e o was is told =
    subst (λ (v : WorldRecord). IsTold event' outcome' old' v) is
    (subst (λ (v : WorldRecord). IsTold event' outcome' v new) was
    (subst (λ (x : Outcome). IsTold event' x old new) o (subst (λ (x : Event). IsTold x outcome old new) e told)))

module _ (value : WorldRecord) (k : ℕ) (count : Option ℕ) where
  pub no_message : (holder : Holder) → kept_items value.messages k ≡ None →
      EventLeads (Deliver k holder count) (Refused NoMessage) value value
  no_message holder none w s = (
    w,
    (
      ap (λ (o : Option (List Item)). option_map_or (λ items. delivery_fault w holder count items) o (Some NoMessage))
          (message_is value w k s ∙ none),
      refl,
    ),
    s,
  )

  -- such a message is there
  module _ (items : List Item) (there : kept_items value.messages k ≡ Some items) where
    -- the fault is the delivery's
    by_items : (w : World) (holder : Holder) → WorldStands value w →
        option_map_or (λ items. delivery_fault w holder count items) (slice_get w.messages k) (Some NoMessage) ≡ delivery_fault w holder
        count items
    by_items w holder s = ap (λ (o : Option (List Item)). option_map_or (λ items. delivery_fault w holder count items) o (Some NoMessage))
        (message_is value w k s ∙ there)

    pub no_map : (j : ℕ) → length value.maps ≤ j → EventLeads (Deliver k (Map j) count) (Refused NoMap) value value
    no_map j l w s =
        let none = map_is value w j s ∙ ap (option_map map_state) (slice_get_past value.maps j l) in (
          w,
          (
            by_items w (Map j) s ∙ ap (λ (o : Option MapState).
                cond (not (is_some o)) (Some NoMap) (cond (nat_lt (length items) (count_of count items)) (Some TooMany) None)) none,
            refl,
          ),
          s,
        )

    pub too_many_for_store : (side : Side) → length items < count_of count items →
        EventLeads (Deliver k (Store side) count) (Refused TooMany) value value
    too_many_for_store side l w s =
        (w, (by_items w (Store side) s ∙ ap (λ b. cond b (Some TooMany) None) (lt-ltb (length items) (count_of count items) l), refl), s)

    -- and a map
    map_there : (w : World) (j : ℕ) (m : SubMapRecord) → WorldStands value w → slice_get value.maps j ≡ Some m →
        slice_get w.maps j ≡ Some (map_state m)
    map_there w j m s e = map_is value w j s ∙ ap (option_map map_state) e

    by_count : (w : World) (j : ℕ) (m : SubMapRecord) → WorldStands value w → slice_get value.maps j ≡ Some m →
        delivery_fault w (Map j) count items ≡ cond (nat_lt (length items) (count_of count items)) (Some TooMany) None
    by_count w j m s e = ap (λ (o : Option MapState).
        cond (not (is_some o)) (Some NoMap) (cond (nat_lt (length items) (count_of count items)) (Some TooMany) None)) (map_there w j m s e)

    pub too_many_for_map : (j : ℕ) (m : SubMapRecord) → slice_get value.maps j ≡ Some m → length items < count_of count items →
        EventLeads (Deliver k (Map j) count) (Refused TooMany) value value
    too_many_for_map j m e l w s = (
      w,
      (
        by_items w (Map j) s ∙ by_count w j m s e ∙
            ap (λ b. cond b (Some TooMany) None) (lt-ltb (length items) (count_of count items) l),
        refl,
      ),
      s,
    )

    -- ---- there are at least `count` items
    module _ (few : count_of count items ≤ length items) (tally : Tally) where
      -- whatever the tally, its outcome isn't a refusal
      happens : (w new : World) (holder : Holder) → delivery_fault w holder count items ≡ None → WorldStands value w →
          Delivers w k holder count (tally_outcome tally tally.stop) new
          → Happens w (Deliver k holder count) (tally_outcome tally tally.stop) new
      happens w new holder free s d = by_stop tally.stop d
        where
          by_stop : (o : Option Refusal) → Delivers w k holder count (tally_outcome tally o) new →
              Happens w (Deliver k holder count) (tally_outcome tally o) new
          by_stop None d = (by_items w holder s ∙ free, d)
          by_stop (Some fault) d = (by_items w holder s ∙ free, d)

      not_more : cond (nat_lt (length items) (count_of count items)) (Some TooMany) None ≡ None
      not_more = ap (λ b. cond b (Some TooMany) None) (lt_false (length items) (count_of count items) few)

      message_there : (w : World) → WorldStands value w → slice_get w.messages k ≡ Some items
      message_there w s = message_is value w k s ∙ there

      -- it led to such a world, and lack of memory came last for its store
      abbrev pub Led : Side → WorldRecord → Type 0
      Led side new =
          (w : World) → WorldStands value w → (after : World) ×
          Happens w (Deliver k (Store side) count) (tally_outcome tally tally.stop) after
          × IsNoRoomLast (take (count_of count items) items) tally.count.done tally.stop (store_at after side) × WorldStands new after

      pub to_a : (new : ContentRecord) → ItemsAreTaken value.a (take (count_of count items) items) tally new
          → Led A (record value { a = new })
      to_a new takes w s =
          let t = takes w.a s.a in (
            with_state w A t.0,
            happens w (with_state w A t.0) (Store A) not_more s
                (record {
                  items = items;
                  there = message_there w s;
                  tally = tally;
                  taken =
                      record { after = t.0; takes = t.1; world_is = refl };
                  outcome_is = refl;
                }),
            t.3,
            record { a = t.2; b = s.b; maps = s.maps; messages = s.messages },
          )

      pub to_b : (new : ContentRecord) → ItemsAreTaken value.b (take (count_of count items) items) tally new
          → Led B (record value { b = new })
      to_b new takes w s =
          let t = takes w.b s.b in (
            with_state w B t.0,
            happens w (with_state w B t.0) (Store B) not_more s
                (record {
                  items = items;
                  there = message_there w s;
                  tally = tally;
                  taken =
                      record { after = t.0; takes = t.1; world_is = refl };
                  outcome_is = refl;
                }),
            t.3,
            record { a = s.a; b = t.2; maps = s.maps; messages = s.messages },
          )

      -- so the event led there
      pub led : (side : Side) (new : WorldRecord) → Led side new →
          EventLeads (Deliver k (Store side) count) (tally_outcome tally tally.stop) value new
      led side new to w s = let there = to w s in (there.0, there.1, there.3)

      -- and lack of memory came last
      pub store_told : (side : Side) (new : WorldRecord) → Led side new → new.messages ≡ value.messages →
          IsTold (Deliver k (Store side) count) (tally_outcome tally tally.stop) value new
      store_told side new to same = (
        λ others e. subst (λ (l : List Item). IsStoreTold (Deliver k (Store side) count) side (take (count_of count l) l)
            (tally_outcome tally tally.stop) value new)
            (one (kept_items value.messages k) items others there e) (by_stop tally.stop to),
        same,
      )
        where
          one : (o : Option (List Item)) (x y : List Item) → o ≡ Some x → o ≡ Some y → x ≡ y
          one o x y e f = cc

          by_stop : (o : Option Refusal)
              → ((w : World) → WorldStands value w →
              (after : World) × Happens w (Deliver k (Store side) count) (tally_outcome tally o) after
              × IsNoRoomLast (take (count_of count items) items) tally.count.done o (store_at after side) × WorldStands new after)
              → IsStoreTold (Deliver k (Store side) count) side (take (count_of count items) items) (tally_outcome tally o) value new
          by_stop None to = tt
          by_stop (Some fault) to = λ w s. (let at = to w s in (at.0, (at.1, at.2), at.3))

      pub to_map : (j : ℕ) (m new : SubMapRecord) → slice_get value.maps j ≡ Some m →
          MapTakes (map_state m) (take (count_of count items) items) tally (map_state new)
          → EventLeads (Deliver k (Map j) count) (tally_outcome tally tally.stop) value (record value { maps = slice_set value.maps j new })
      to_map j m new e takes w s =
          let after : World = record w { maps = slice_set w.maps j (map_state new) } in (
            after,
            happens w after (Map j) (by_count w j m s e ∙ not_more) s
                (record {
                  items = items;
                  there = message_there w s;
                  tally = tally;
                  taken = record { old = map_state m; there = map_there w j m s e; after = map_state new; takes = takes; world_is = refl };
                  outcome_is = refl;
                }),
            record {
              a = s.a;
              b = s.b;
              maps = ap (λ (l : List MapState). slice_set l j (map_state new)) s.maps ∙
                  sym (map-set map_state value.maps j new);
              messages = s.messages;
            },
          )

-- a map of such a number is there
pub map_at : (maps : List SubMapRecord) (j : ℕ) → j < length maps → (m : SubMapRecord) × (slice_get maps j ≡ Some m)
map_at [] j l = absurd (omega (arith, l))
map_at (m ∷ maps) zero l = (m, refl)
map_at (m ∷ maps) (suc j) l = map_at maps j (omega (arith, l))

-- ---- what a delivery to a map reports
set_there : (maps : List SubMapRecord) (j : ℕ) (old new : SubMapRecord) → slice_get maps j ≡ Some old →
    slice_get (slice_set maps j new) j ≡ Some new
set_there [] j old new e = absurd (cc)
set_there (m ∷ maps) zero old new e = refl
set_there (m ∷ maps) (suc j) old new e = set_there maps j old new e

same : {X : Type 0} (o : Option X) (x y : X) → o ≡ Some x → o ≡ Some y → x ≡ y
same o x y e f = cc

pub map_told : (value : WorldRecord) (k j : ℕ) (count : Option ℕ) (items : List Item) (old new : SubMapRecord) (outcome : Outcome) →
    kept_items value.messages k ≡ Some items → slice_get value.maps j ≡ Some old
    → IsMapTold old.query old.held (take (count_of count items) items) outcome new.held →
    IsTold (Deliver k (Map j) count) outcome value (record value { maps = slice_set value.maps j new })
map_told value k j count items old new outcome there at told = (
  λ others m n e f g.
      subst (λ (l : List Item). IsMapTold m.query m.held (take (count_of count l) l) outcome n.held)
      (same (kept_items value.messages k) items others there e)
      (subst (λ (x : SubMapRecord). IsMapTold x.query x.held (take (count_of count items) items) outcome n.held)
      (same (slice_get value.maps j) old m at f)
      (subst (λ (x : SubMapRecord). IsMapTold old.query old.held (take (count_of count items) items) outcome x.held)
      (same (slice_get (slice_set value.maps j new) j) new n (set_there value.maps j old new at) g) told)),
  refl,
)

pub store_refused : (value : WorldRecord) (k : ℕ) (side : Side) (count : Option ℕ) (fault : EventFault) →
    IsTold (Deliver k (Store side) count) (Refused fault) value value
store_refused value k side count fault = (λ items e. tt, refl)

pub map_refused : (value : WorldRecord) (k j : ℕ) (count : Option ℕ) (fault : EventFault) →
    IsTold (Deliver k (Map j) count) (Refused fault) value value
map_refused value k j count fault = (λ items m n e f g. tt, refl)
