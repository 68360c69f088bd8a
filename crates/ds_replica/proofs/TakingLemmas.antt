-- The knowledge of a holder after it takes items.
use Rattle.std.proofs.Common.{◌≡◌, Bool, true, List, [], ◌++◌, subst, inl, inr, ◌⊎◌}
use Rattle.std.specs.List.{Contains}
use Rattle.std.proofs.lemmas.List.Elements.{Contains-append_left, Contains-append_right, Contains-append_cases}
use Rattle.ds_names.specs.declared.key.Key.{Key}
use Rattle.ds_entry.specs.Item.{passes}
use Rattle.ds_entry.specs.ItemCovers.{covers}
use Rattle.ds_entry.specs.declared.item.Item.{Item}
use Rattle.ds_entry.proofs.Members.{Contains-nil, Contains-head, Contains-filter, Contains-from_filter, Contains-map, Contains-from_map}
use Rattle.ds_entry.proofs.ItemLemmas.{covers-refl}
use Rattle.ds_join.specs.ItemTop.{IsPartOf, CoversAll}
use Rattle.ds_join.proofs.ItemTopLemmas.{top_of_nothing, top_of_same, top_of_top, top_of_whole}
use Rattle.ds_replica.specs.Sent.{Sent, IsSent, stood_for, learnt}
use Rattle.ds_replica.specs.Taking.{items_of, sent_under, HolderTakes, NewMapIsMap, MapsTake}
use Rattle.ds_replica.proofs.SentLemmas.{stood, from_stood, stood_wider, sent_covers}

module _ (more : List Sent) (sent : (s : Sent) → Contains more s → IsSent s) where
  -- each item is one of what it stands for
  items_stood : IsPartOf (items_of more) (stood_for more)
  items_stood i h =
      let s = Contains-from_map (λ (t : Sent). t.item) more i h in
      subst (λ (z : Item). Contains (stood_for more) z) s.2
      (stood more s.0 s.0.item s.1 ((sent s.0 s.1).among s.0.item (Contains-head s.0.item [])))

  -- and covers all of that
  items_cover : CoversAll (items_of more) (stood_for more)
  items_cover i h =
      let s = from_stood more i h in
      (s.0.item, Contains-map (λ (t : Sent). t.item) more s.0 s.1, sent_covers s.0 (sent s.0 s.1) i s.2)

pub holder_takes : HolderTakes
holder_takes known held new more sent t u =
    top_of_whole (known ++ stood_for more) (known ++ items_of more) new part cover (top_of_top known (items_of more) held new t u)
  where
    part : IsPartOf (known ++ items_of more) (known ++ stood_for more)
    part i h = elim (Contains-append_cases known (items_of more) i h) [
      | inl k ↦ Contains-append_left known (stood_for more) i k
      | inr k ↦ Contains-append_right known (stood_for more) i (items_stood more sent i k)
    ]

    by_side : (i : Item) → Contains known i ⊎ Contains (stood_for more) i →
        (j : Item) × Contains (known ++ items_of more) j × (covers j i ≡ true)
    by_side i (inl k) = (i, Contains-append_left known (items_of more) i k, covers-refl i)
    by_side i (inr k) = let d = items_cover more sent i k in (d.0, Contains-append_right known (items_of more) d.0 d.1, d.2)

    cover : CoversAll (known ++ items_of more) (known ++ stood_for more)
    cover i h = by_side i (Contains-append_cases known (stood_for more) i h)

pub new_map_is_map : NewMapIsMap
new_map_is_map query = record { sent = λ s h. absurd (Contains-nil s h); top = top_of_nothing }

module _ (query : Key → Bool) (items more : List Sent) where
  abbrev is_under : Sent → Bool
  is_under s = passes query s.item

  both_learnt : IsPartOf (learnt query items ++ stood_for (sent_under query more)) (learnt query (items ++ more))
  both_learnt i h =
      elim (Contains-append_cases (learnt query items) (stood_for (sent_under query more)) i h) [
        | inl k ↦ stood_wider (sent_under query items) (sent_under query (items ++ more))
            (λ s m. let f = Contains-from_filter is_under items s m in
            Contains-filter is_under (items ++ more) s (Contains-append_left items more s f.0) f.1) i k
        | inr k ↦ stood_wider (sent_under query more) (sent_under query (items ++ more))
            (λ s m. let f = Contains-from_filter is_under more s m in
            Contains-filter is_under (items ++ more) s (Contains-append_right items more s f.0) f.1) i k
      ]

  learnt_both : IsPartOf (learnt query (items ++ more)) (learnt query items ++ stood_for (sent_under query more))
  learnt_both i h =
      let s = from_stood (sent_under query (items ++ more)) i h in
      let f = Contains-from_filter is_under (items ++ more) s.0 s.1 in
      elim (Contains-append_cases items more s.0 f.0) [
        | inl k ↦ Contains-append_left (learnt query items) (stood_for (sent_under query more)) i
            (stood (sent_under query items) s.0 i (Contains-filter is_under items s.0 k f.1) s.2)
        | inr k ↦ Contains-append_right (learnt query items) (stood_for (sent_under query more)) i
            (stood (sent_under query more) s.0 i (Contains-filter is_under more s.0 k f.1) s.2)
      ]

pub map_takes : MapsTake
map_takes query items more held new sent m u = record {
  sent = λ s h. elim (Contains-append_cases items more s h) [ inl k ↦ m.sent s k | inr k ↦ sent s k ];
  top =
      top_of_same new (learnt query items ++ stood_for (sent_under query more)) (learnt query (items ++ more))
      (both_learnt query items more) (learnt_both query items more)
      (holder_takes (learnt query items) held new (sent_under query more)
      (λ s h. sent s (Contains-from_filter (λ (t : Sent). passes query t.item) more s h).0) m.top u);
}
