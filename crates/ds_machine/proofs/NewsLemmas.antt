-- What takes effect is news: nothing that was accepted covers it, and it fits the owners.
use Rattle.std.proofs.Common.{◌≡◌, ℕ, ◌<◌, ◌≤◌, Bool, true, false, List, Option, Some, None, refl, sym, ap, ◌∙◌, subst, arith, Contains}
use Rattle.std.specs.declared.cmp.Ordering.TheVariants.{Less, Greater}
use Rattle.std.specs.Ordering.{is_le, ordering_reverse}
use Rattle.ds_names.specs.declared.version.Version.{Version}
use Rattle.ds_names.specs.Version.{version_cmp}
use Rattle.ds_names.proofs.OrderLemmas.{versions_total}
use Rattle.ds_entry.specs.Change.{ChangeRecord}
use Rattle.ds_entry.specs.Covers.{is_at_most}
use Rattle.ds_entry.specs.ItemCovers.{covers}
use Rattle.ds_entry.specs.Void.{voids, voids_it, is_void}
use Rattle.ds_entry.specs.declared.floor.Floor.{Floor}
use Rattle.ds_entry.specs.declared.item.Item.{Item}
use Rattle.ds_entry.specs.declared.item.Item.TheVariants.{Change as Changed, Floor as Floored}
use Rattle.ds_entry.proofs.Members.{none_pass}
use Rattle.ds_entry.proofs.CoversLemmas.{covers-key, covers-owner, covers-version}
use Rattle.ds_entry.proofs.ItemLemmas.{covers-trans, below}
use Rattle.ds_join.specs.ItemTop.{IsTop, tops, HasOneOwnerInTurn}
use Rattle.ds_join.proofs.ItemExistLemmas.{tops_is_top}
use Rattle.ds_machine.specs.Parts.{held_at, floor_at}
use Rattle.ds_machine.specs.Standing.{HasRoom}
use Rattle.ds_machine.specs.Effect.{IsNews}
use Rattle.ds_machine.proofs.PartLemmas.{key_found, key_missing, owner_found, owner_missing, one_change, one_floor}

not_above : (h c : Version) → version_cmp h c ≡ Less → is_at_most c h ≡ true → ⊥
not_above h c l a =
    let turned : version_cmp c h ≡ Greater = versions_total.antisymm c h ∙ ap ordering_reverse l in
    let no : true ≡ false = sym a ∙ ap is_le turned in
    absurd (cc)

none_if : (b : Bool) → (b ≡ true → ⊥) → b ≡ false
none_if true n = absurd (n refl)
none_if false n = refl

-- the floor of its owner, if one is held, is below
abbrev pub IsAbove : Option Floor → Floor → Type 0
IsAbove None f = Unit {0}
IsAbove (Some g) f = g.generation < f.generation

module _ (accepted : List Item) (owners : HasOneOwnerInTurn accepted) where
  top : IsTop (tops accepted) accepted
  top = tops_is_top accepted owners

  module _ (c : ChangeRecord) (v : is_void (tops accepted) c ≡ false) (count most : ℕ) where
    no_floor : (g : Floor) → Contains (tops accepted) (Floored g) → voids g c ≡ true → ⊥
    no_floor g h e = let t : true ≡ false = sym e ∙ none_pass (voids_it c) (tops accepted) (Floored g) v h in absurd (cc)

    -- no held change of the key is in its version or a greater one
    no_greater : (o : Option ChangeRecord) → held_at (tops accepted) c.key ≡ o → HasRoom o count most c → (h : ChangeRecord) →
        Contains (tops accepted) (Changed h) → c.key ≡ h.key → is_at_most c.version h.version ≡ true → ⊥
    no_greater None e room h k same over = key_missing (tops accepted) c.key h e k same
    no_greater (Some d) e room h k same over =
        let at = key_found (tops accepted) c.key d e in
        let one : h ≡ d = one_change (tops accepted) accepted top h d k at.0 (sym same ∙ at.1) in
        not_above d.version c.version room.1 (subst (λ (x : ChangeRecord). is_at_most c.version x.version ≡ true) one over)

    -- a held change of the key is of its owner
    same_owner : (o : Option ChangeRecord) → held_at (tops accepted) c.key ≡ o → HasRoom o count most c → (h : ChangeRecord) →
        Contains (tops accepted) (Changed h) → c.key ≡ h.key → c.owner ≡ h.owner
    same_owner None e room h k same = absurd (key_missing (tops accepted) c.key h e k same)
    same_owner (Some d) e room h k same =
        let at = key_found (tops accepted) c.key d e in
        let one : h ≡ d = one_change (tops accepted) accepted top h d k at.0 (sym same ∙ at.1) in
        sym room.0 ∙ ap (λ (x : ChangeRecord). x.owner) (sym one)

    pub news_change : HasRoom (held_at (tops accepted) c.key) count most c → IsNews accepted (Changed c)
    news_change room = record { newer = newer; fits = fits }
      where
        held_covers : (k : Item) → Contains (tops accepted) k → covers k (Changed c) ≡ true → ⊥
        held_covers (Floored g) h e = no_floor g h e
        held_covers (Changed d) h e = no_greater (held_at (tops accepted) c.key) refl room d h (covers-key d c e) (covers-version d c e)

        newer : (j : Item) → Contains accepted j → covers j (Changed c) ≡ false
        newer j h = none_if (covers j (Changed c))
            (λ e. let k = top.greatest j h in held_covers k.0 k.1 (covers-trans k.0 j (Changed c) k.2 e))

        owned : (d : ChangeRecord) → is_void accepted d ≡ false → c.key ≡ d.key → (k : Item) → Contains (tops accepted) k →
            covers k (Changed d) ≡ true → c.owner ≡ d.owner
        owned d w e (Floored g) h over = absurd (let t : true ≡ false =
            sym over ∙ none_pass (voids_it d) accepted (Floored g) w (top.among (Floored g) h) in cc)
        owned d w e (Changed x) h over = same_owner (held_at (tops accepted) c.key) refl room x h (e ∙ covers-key x d over) ∙
            sym (covers-owner x d over)

        fits : (d : ChangeRecord) → Contains accepted (Changed d) → is_void accepted c ≡ false → is_void accepted d ≡ false →
            c.key ≡ d.key → c.owner ≡ d.owner
        fits d h u w e = let k = top.greatest (Changed d) h in owned d w e k.0 k.1 k.2

  pub news_floor : (f : Floor) → IsAbove (floor_at (tops accepted) f.owner) f → IsNews accepted (Floored f)
  news_floor f above = record { newer = newer; fits = tt }
    where
      no_greater : (o : Option Floor) → floor_at (tops accepted) f.owner ≡ o → IsAbove o f → (g : Floor) →
          Contains (tops accepted) (Floored g) → (f.owner ≡ g.owner) × (f.generation ≤ g.generation) → ⊥
      no_greater None e a g h b = owner_missing (tops accepted) f.owner g e h b.0
      no_greater (Some x) e a g h b =
          let at = owner_found (tops accepted) f.owner x e in
          let one : g.generation ≡ x.generation =
          ap (λ (y : Floor). y.generation) (one_floor (tops accepted) accepted top g x h at.0 (sym b.0 ∙ at.1)) in
          let high : f.generation ≤ g.generation = b.1 in
          let low : x.generation < f.generation = a in
          absurd (omega (arith, one, high, low))

      held_covers : (k : Item) → Contains (tops accepted) k → covers k (Floored f) ≡ true → ⊥
      held_covers (Changed d) h e = let t : false ≡ true = e in absurd (cc)
      held_covers (Floored g) h e = no_greater (floor_at (tops accepted) f.owner) refl above g h
          (below f.owner g.owner f.generation g.generation e)

      newer : (j : Item) → Contains accepted j → covers j (Floored f) ≡ false
      newer j h = none_if (covers j (Floored f))
          (λ e. let k = top.greatest j h in held_covers k.0 k.1 (covers-trans k.0 j (Floored f) k.2 e))
