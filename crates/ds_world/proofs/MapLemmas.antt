-- What making and clearing maps, and opening stores again, do to a world.
use Rattle.std.proofs.Common.{◌≡◌, ◌⊎◌, ℕ, ◌<◌, ◌≤◌, nat_le, nat_lt, Bool, true, false, not, cond, ◌&&◌, List, [], ◌∷◌, ◌++◌, length, map}
use Rattle.std.proofs.Common.{Option, Some, None, is_some, refl, ap, sym, ◌∙◌, inl, inr, arith}
use Rattle.std.specs.List.{slice_get, slice_set}
use Rattle.std.specs.Option.{option_map}
use Rattle.std.proofs.lemmas.List.{map-append, map-set, length-map}
use Rattle.std.proofs.lemmas.Option.{slice_get_past}
use Rattle.ds_entry.specs.declared.item.Item.{Item}
use Rattle.ds_pattern.specs.declared.query.Query.{Query}
use Rattle.ds_pattern.specs.Patterns.{IsPattern, IsPatternFault, is_pattern}
use Rattle.ds_pattern.specs.declared.pattern.PatternFault.TheVariants as patterns
use Rattle.ds_submap.specs.Map.{SubMapRecord, empty_map}
use Rattle.ds_machine.specs.State.{State}
use Rattle.ds_content.specs.Stands as contents
use Rattle.ds_content.proofs.OpenLemmas.{nothing_is_held}
use Rattle.ds_held.specs.Limits.{larger}
use Rattle.ds_content.specs.Content.{ContentRecord}
use Rattle.ds_replica.specs.declared.event.Side.{Side}
use Rattle.ds_replica.specs.declared.event.Side.TheVariants.{A, B}
use Rattle.ds_replica.specs.declared.event.Event.TheVariants.{NewMap, ClearMap, RestartStore}
use Rattle.ds_replica.specs.declared.outcome.Outcome.TheVariants.{MapMade, Cleared, Restarted, Refused}
use Rattle.ds_replica.specs.declared.outcome.EventFault.TheVariants.{MapsFull, TooLong, BadPattern, NoMap, OldIncarnation, NoRoom}
use Rattle.ds_replica.specs.World.{MapState, World, with_state}
use Rattle.ds_replica.specs.Happens.{most_maps, pattern_fault, map_fault, new_map, reopened}
use Rattle.ds_world.specs.World.{WorldRecord, map_state, WorldStands}
use Rattle.ds_world.specs.Run.{EventLeads}
use Rattle.ds_world.proofs.StandLemmas.{map_is, lt_false}
use Rattle.std.proofs.lemmas.Bool.{le-leb, lt-leb, lt-ltb}

-- ---- a map is made
-- a map that got nothing holds nothing
empty_state : (query : Query) → map_state (empty_map query) ≡ new_map query
empty_state query = ap (λ (l : List Item). record { query = query; held = l }) (nothing_is_held larger)

many : (value : WorldRecord) (w : World) → WorldStands value w → length w.maps ≡ length value.maps
many value w s = ap (λ (l : List MapState). length l) s.maps ∙ length-map value.maps map_state

-- the fault against a query when there are few maps
few_fault : (value : WorldRecord) (w : World) (query : Query) → WorldStands value w → length value.maps < most_maps →
    map_fault w query ≡ pattern_fault query
few_fault value w query s few =
    ap (λ b. cond b (Some MapsFull) (pattern_fault query))
    (ap (λ n. nat_le most_maps n) (many value w s) ∙ lt-leb most_maps (length value.maps) few)

fits : (query : Query) → length query.text ≤ 128 → not (nat_le (length query.text) 128) ≡ false
fits query l = ap not (le-leb (length query.text) 128 l)

pub nothing_against : (query : Query) → IsPattern query.text → pattern_fault query ≡ None
nothing_against query p =
    ap (λ b. cond b (Some TooLong) (cond (not (is_pattern query.text)) (Some BadPattern) None)) (fits query p.limit) ∙
    ap (λ b. cond (not b) (Some BadPattern) None) p.accepted

too_long : (query : Query) → 128 < length query.text → pattern_fault query ≡ Some TooLong
too_long query l = ap (λ b. cond (not b) (Some TooLong) (cond (not (is_pattern query.text)) (Some BadPattern) None))
    (lt-leb (length query.text) 128 l)

bad_pattern : (query : Query) → length query.text ≤ 128 → is_pattern query.text ≡ false → pattern_fault query ≡ Some BadPattern
bad_pattern query l e =
    ap (λ b. cond b (Some TooLong) (cond (not (is_pattern query.text)) (Some BadPattern) None)) (fits query l) ∙
    ap (λ b. cond (not b) (Some BadPattern) None) e

-- when memory runs out, a pattern may have any fault but its length
none_or_bad : (query : Query) → length query.text ≤ 128 → (pattern_fault query ≡ None) ⊎ (pattern_fault query ≡ Some BadPattern)
none_or_bad query l = by_test (is_pattern query.text) refl
  where
    by_test : (b : Bool) → is_pattern query.text ≡ b → (pattern_fault query ≡ None) ⊎ (pattern_fault query ≡ Some BadPattern)
    by_test true e = inl (nothing_against query (record { limit = l; accepted = e }))
    by_test false e = inr (bad_pattern query l e)

module _ (value : WorldRecord) (query : Query) where
  pub maps_full : most_maps ≤ length value.maps → EventLeads (NewMap query) (Refused MapsFull) value value
  maps_full full w s = (
    w,
    (
      ap (λ b. cond b (Some MapsFull) (pattern_fault query))
          (ap (λ n. nat_le most_maps n) (many value w s) ∙ le-leb most_maps (length value.maps) full),
      refl,
    ),
    s,
  )

  pub map_too_long : length value.maps < most_maps → IsPatternFault patterns.TooLong query.text →
      EventLeads (NewMap query) (Refused TooLong) value value
  map_too_long few l w s = (w, (few_fault value w query s few ∙ too_long query l, refl), s)

  pub map_bad : length value.maps < most_maps → IsPatternFault patterns.BadPattern query.text →
      EventLeads (NewMap query) (Refused BadPattern) value value
  map_bad few f w s = (w, (few_fault value w query s few ∙ bad_pattern query f.0 f.1, refl), s)

  pub map_noroom : length value.maps < most_maps → length query.text ≤ 128 → EventLeads (NewMap query) (Refused NoRoom) value value
  map_noroom few l w s = (
    w,
    (
      (
        refl,
        elim (none_or_bad query l) [
          | inl e ↦ inl (few_fault value w query s few ∙ e)
          | inr e ↦ inr
              (few_fault value w query s few ∙ e)
        ],
      ),
      refl,
    ),
    s,
  )

  pub map_made : (m : SubMapRecord) → length value.maps < most_maps → m ≡ empty_map query → IsPattern query.text →
      EventLeads (NewMap query) (MapMade (length value.maps)) value (record value { maps = value.maps ++ m ∷ [] })
  map_made m few e p w s = (
    record w { maps = w.maps ++ new_map query ∷ [] },
    (few_fault value w query s few ∙ nothing_against query p, record { outcome_is = ap MapMade (sym (many value w s)); world_is = refl }),
    record {
      a = s.a;
      b = s.b;
      maps = ap (λ (l : List MapState). l ++ new_map query ∷ []) s.maps ∙
          sym (map-append map_state value.maps (m ∷ []) ∙
          ap (λ (x : MapState). map map_state value.maps ++ x ∷ []) (ap map_state e ∙ empty_state query));
      messages = s.messages;
    },
  )

-- ---- a map is cleared
none_there : (value : WorldRecord) (w : World) (j : ℕ) → WorldStands value w → length value.maps ≤ j → slice_get w.maps j ≡ None
none_there value w j s l = slice_get_past w.maps j (omega (arith, l, many value w s))

pub no_map : (value : WorldRecord) (j : ℕ) → length value.maps ≤ j → EventLeads (ClearMap j) (Refused NoMap) value value
no_map value j l w s = (w, (ap (λ (o : Option MapState). cond (is_some o) None (Some NoMap)) (none_there value w j s l), refl), s)

pub map_cleared : (value : WorldRecord) (j : ℕ) (m : SubMapRecord) → slice_get value.maps j ≡ Some m →
    EventLeads (ClearMap j) Cleared value (record value { maps = slice_set value.maps j (empty_map m.query) })
map_cleared value j m e w s =
    let there = map_is value w j s ∙ ap (option_map map_state) e in (
      record w { maps = slice_set w.maps j (new_map m.query) },
      (
        ap (λ (o : Option MapState). cond (is_some o) None (Some NoMap)) there,
        record
            { old = map_state m; there = there; outcome_is = refl; world_is = refl },
      ),
      record {
        a = s.a;
        b = s.b;
        maps = ap (λ (l : List MapState). slice_set l j (new_map m.query)) s.maps
            ∙ sym (map-set map_state value.maps j (empty_map m.query) ∙
            ap (λ (x : MapState). slice_set (map map_state value.maps) j x) (empty_state m.query));
        messages = s.messages;
      },
    )

-- ---- a store is opened again
same_incarnation : (content : ContentRecord) (t : State) → contents.ContentStands content t →
    content.journal.incarnation ≡ t.feed.incarnation
same_incarnation content t s = s.journal.incarnation

module _ (value : WorldRecord) (incarnation : ℕ) where
  pub old_incarnation : (side : Side) → ((incarnation ≤ value.a.journal.incarnation) ⊎ (incarnation ≤ value.b.journal.incarnation)) →
      EventLeads (RestartStore side incarnation) (Refused OldIncarnation) value value
  old_incarnation side (inl l) w s = (
    w,
    (
      ap (λ b. cond (b && nat_lt w.b.feed.incarnation incarnation) None (Some OldIncarnation))
          (lt_false w.a.feed.incarnation incarnation (omega (arith, l, same_incarnation value.a w.a s.a))),
      refl,
    ),
    s,
  )
  old_incarnation side (inr l) w s = (
    w,
    (
      ap (λ b. cond (nat_lt w.a.feed.incarnation incarnation && b) None (Some OldIncarnation))
          (lt_false w.b.feed.incarnation incarnation (omega (arith, l, same_incarnation value.b w.b s.b)))
          ∙ ap (λ b. cond b None (Some OldIncarnation)) (and_false (nat_lt w.a.feed.incarnation incarnation)),
      refl,
    ),
    s,
  )
    where
      and_false : (x : Bool) → x && false ≡ false
      and_false true = refl
      and_false false = refl

  module _ (la : value.a.journal.incarnation < incarnation) (lb : value.b.journal.incarnation < incarnation) where
    above : (w : World) → WorldStands value w →
        cond (nat_lt w.a.feed.incarnation incarnation && nat_lt w.b.feed.incarnation incarnation) None (Some OldIncarnation) ≡ None
    above w s =
        ap (λ b. cond (b && nat_lt w.b.feed.incarnation incarnation) None (Some OldIncarnation))
        (lt-ltb w.a.feed.incarnation incarnation (omega (arith, la, same_incarnation value.a w.a s.a)))
        ∙ ap (λ b. cond b None (Some OldIncarnation))
        (lt-ltb w.b.feed.incarnation incarnation (omega (arith, lb, same_incarnation value.b w.b s.b)))

    pub restarted_a : (new : ContentRecord) →
        ((t : State) → contents.ContentStands value.a t → contents.ContentStands new (reopened t incarnation)) →
        EventLeads (RestartStore A incarnation) Restarted value (record value { a = new })
    restarted_a new opens w s = (
      with_state w A (reopened w.a incarnation),
      (above w s, record { outcome_is = refl; world_is = refl }),
      record
          { a = opens w.a s.a; b = s.b; maps = s.maps; messages = s.messages },
    )

    pub restarted_b : (new : ContentRecord) →
        ((t : State) → contents.ContentStands value.b t → contents.ContentStands new (reopened t incarnation)) →
        EventLeads (RestartStore B incarnation) Restarted value (record value { b = new })
    restarted_b new opens w s = (
      with_state w B (reopened w.b incarnation),
      (above w s, record { outcome_is = refl; world_is = refl }),
      record
          { a = s.a; b = opens w.b s.b; maps = s.maps; messages = s.messages },
    )
