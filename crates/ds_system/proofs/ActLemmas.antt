-- A step of RS keeps the invariant of systems.
use Rattle.std.proofs.Common.{◌≡◌, ℕ, ◌+◌, ◌<◌, ◌≤◌, true, false, List, ◌++◌, length, Option, Some, None, refl, ap, sym, ◌∙◌, subst, inl}
use Rattle.std.proofs.Common.{inr, ◌⊎◌, arith, Contains}
use Rattle.std.proofs.lemmas.List.Elements.{Contains-append_left, Contains-append_right, Contains-append_cases}
use Rattle.ds_names.specs.Endpoint.{EndpointRecord}
use Rattle.ds_names.specs.Kind.{is_label}
use Rattle.ds_names.specs.Name.{rs_name}
use Rattle.ds_entry.specs.Change.{ChangeRecord}
use Rattle.rs_settings.specs.Settings.{SettingsRecord, IsSettings}
use Rattle.rs_core.specs.declared.action.Action.{Action}
use Rattle.rs_core.specs.declared.state.State.TheVariants.{Up}
use Rattle.rs_core.specs.declared.state.Running.{Running}
use Rattle.rs_core.specs.Action.{label_put, label_gone}
use Rattle.rs_core.specs.Numbering.{NumbererRecord}
use Rattle.rs_core.specs.Run.{offers}
use Rattle.rs_core.specs.Says.{label_at, Begun, begun_at, IsNextAfter, IsPutOf, RanOrBegan, StepSays}
use Rattle.rs_core.specs.State.{RsRecord, state_at}
use Rattle.ds_system.specs.Drawing.{numberer_at}
use Rattle.ds_system.proofs.Kept.{label_of_service, IsLabelPut, IsMade, IsKept}
use Rattle.ds_system.proofs.NumberLemmas.{drawn_labels}
use Rattle.ds_system.proofs.SingleLemmas.{entry_no_label, not_both_numbers}

-- what was made stays made when the next generation rises
made_later : (settings : SettingsRecord) (next more : ℕ) (numberers : List NumbererRecord) (c : ChangeRecord) → next ≤ more →
    IsMade settings next numberers c → IsMade settings more numberers c
made_later settings next more numberers c l (inl p) = inl
    (record { place = p.place; endpoint = p.endpoint; is = p.is; some = p.some; below = omega (arith, p.below, l) })
made_later settings next more numberers c l (inr h) = inr h

module _ (rs after : RsRecord) (numberers : List NumbererRecord) (made : List ChangeRecord) (k : IsKept rs numberers made)
    (acts : List Action) (says : StepSays rs acts after) where
  settings_same : rs.settings ≡ after.settings
  settings_same = sym says.settings

  label_same : (i : ℕ) → label_of_service after.settings i ≡ label_of_service rs.settings i
  label_same i = ap (λ (z : SettingsRecord). label_of_service z i) says.settings

  old : (c : ChangeRecord) → Contains made c → Contains (made ++ offers acts) c
  old c h = Contains-append_left made (offers acts) c h

  next_rises : rs.next ≤ after.next
  next_rises = by says.begun says.next
    where
      by : (b : Option Begun) → IsNextAfter rs.next b after.next → rs.next ≤ after.next
      by None h = omega arith
      by (Some b) h = let e : after.next ≡ rs.next + 1 = h.1 in omega arith

  -- ---- what was made
  offered_made : (c : ChangeRecord) → Contains (offers acts) c → IsMade after.settings after.next numberers c
  offered_made c h = elim (says.offered c h) [
    | inl p ↦ inl (put says.begun says.next p)
    | inr g ↦ inr
        (inl (record {
          place = g.0;
          generation = g.1.endpoint.generation;
          is =
              g.3 ∙ ap (λ (l : List ℕ). label_gone l g.1.endpoint.generation) (sym (label_same g.0));
        }))
  ]
    where
      put : (b : Option Begun) → IsNextAfter rs.next b after.next → IsPutOf rs b c → IsLabelPut after.settings after.next c
      put None n p = absurd p
      put (Some b) n p =
          let g : b.endpoint.generation ≡ rs.next = n.0 in
          let m : after.next ≡ rs.next + 1 = n.1 in
          let s : 1 ≤ rs.next = k.some in
          record {
            place = b.place;
            endpoint = b.endpoint;
            is = p ∙ ap (λ (l : List ℕ). label_put l b.endpoint) (sym (label_same b.place));
            some =
                omega arith;
            below = omega arith;
          }

  each_made : (c : ChangeRecord) → Contains (made ++ offers acts) c → IsMade after.settings after.next numberers c
  each_made c h = elim (Contains-append_cases made (offers acts) c h) [
    | inl i ↦ subst (λ (z : SettingsRecord). IsMade z after.next numberers c) settings_same
        (made_later rs.settings rs.next after.next numberers c next_rises (k.each c i))
    | inr i ↦ offered_made c i
  ]

  -- every offered change is a label of RS's
  pub offered_label : (c : ChangeRecord) → Contains (offers acts) c → (is_label c.key.kind ≡ true) × (c.owner ≡ rs_name)
  offered_label c h = elim (says.offered c h)
      [ inl p ↦ put says.begun p | inr g ↦ labelled (label_gone (label_at rs g.0) g.1.endpoint.generation) g.3 refl refl ]
    where
      labelled : (x : ChangeRecord) → c ≡ x → is_label x.key.kind ≡ true → x.owner ≡ rs_name →
          (is_label c.key.kind ≡ true) × (c.owner ≡ rs_name)
      labelled x e p q = (ap (λ (z : ChangeRecord). is_label z.key.kind) e ∙ p, ap (λ (z : ChangeRecord). z.owner) e ∙ q)

      put : (b : Option Begun) → IsPutOf rs b c → (is_label c.key.kind ≡ true) × (c.owner ≡ rs_name)
      put None p = absurd p
      put (Some b) p = labelled (label_put (label_at rs b.place) b.endpoint) p refl refl

  -- ---- labels that were put
  -- a label that is put now is that of the instance that began, of a generation that no earlier one has
  abbrev IsBegun : List ℕ → EndpointRecord → Type 0
  IsBegun l e = (b : Begun) × (says.begun ≡ Some b) × (label_put l e ≡ label_put (label_of_service rs.settings b.place) b.endpoint) ×
      (e.generation ≡ rs.next)

  put_now : (l : List ℕ) (e : EndpointRecord) → Contains (offers acts) (label_put l e) → IsBegun l e
  put_now l e h = elim (says.offered (label_put l e) h) [
    | inl p ↦ by says.begun refl says.next p
    | inr g ↦ absurd (not_both_numbers 0 refl (ap (λ (c : ChangeRecord). c.version.seq) g.3))
  ]
    where
      by : (b : Option Begun) → says.begun ≡ b → IsNextAfter rs.next b after.next → IsPutOf rs b (label_put l e) → IsBegun l e
      by None q n p = absurd p
      by (Some b) q n p = (b, q, p, ap (λ (c : ChangeRecord). c.version.epoch) p ∙ n.0)

  put_earlier : (l : List ℕ) (e : EndpointRecord) → Contains made (label_put l e) → e.generation < rs.next
  put_earlier l e h = by (k.each (label_put l e) h)
    where
      by : IsMade rs.settings rs.next numberers (label_put l e) → e.generation < rs.next
      by (inl p) = let g : e.generation ≡ p.endpoint.generation = ap (λ (c : ChangeRecord). c.version.epoch) p.is in let b = p.below in
          omega arith
      by (inr (inl p)) = absurd (not_both_numbers 0 refl (ap (λ (c : ChangeRecord). c.version.seq) p.is))
      by (inr (inr h)) = let n : true ≡ false = entry_no_label rs.settings numberers (label_put l e) h in cc

  puts_after : (l m : List ℕ) (e f : EndpointRecord) → Contains (made ++ offers acts) (label_put l e) →
      Contains (made ++ offers acts) (label_put m f) → e.generation ≡ f.generation → label_put l e ≡ label_put m f
  puts_after l m e f h g same = by (Contains-append_cases made (offers acts) (label_put l e) h)
      (Contains-append_cases made (offers acts) (label_put m f) g)
    where
      one : (b d : Begun) → Some b ≡ Some d → label_put (label_of_service rs.settings b.place) b.endpoint ≡ label_put
          (label_of_service rs.settings d.place) d.endpoint
      one b d q = let e : b ≡ d = cc in ap (λ (z : Begun). label_put (label_of_service rs.settings z.place) z.endpoint) e

      by : Contains made (label_put l e) ⊎ Contains (offers acts) (label_put l e) →
          Contains made (label_put m f) ⊎ Contains (offers acts) (label_put m f) → label_put l e ≡ label_put m f
      by (inl i) (inl j) = k.puts l m e f i j same
      by (inl i) (inr j) = let a = put_earlier l e i in let b = (put_now m f j).3 in absurd (omega arith)
      by (inr i) (inl j) = let a = put_earlier m f j in let b = (put_now l e i).3 in absurd (omega arith)
      by (inr i) (inr j) = let p = put_now l e i in let q = put_now m f j in p.2 ∙ one p.0 q.0 (sym p.1 ∙ q.1) ∙ sym q.2

  -- ---- what runs
  runs_after : (i : ℕ) (r : Running) → state_at after i ≡ Up r →
      Contains (made ++ offers acts) (label_put (label_of_service after.settings i) r.endpoint)
  runs_after i r up = subst (λ (l : List ℕ). Contains (made ++ offers acts) (label_put l r.endpoint)) (sym (label_same i))
      (by (says.runs i r up))
    where
      by : RanOrBegan (state_at rs i) says.begun i r.endpoint →
          Contains (made ++ offers acts) (label_put (label_of_service rs.settings i) r.endpoint)
      by (inl (q, ran, same)) = subst (λ (z : EndpointRecord).
          Contains (made ++ offers acts) (label_put (label_of_service rs.settings i) z)) same (old _ (k.runs i q ran))
      by (inr began) = Contains-append_right made (offers acts) _ (says.put (begun_at i r.endpoint) began)

  ahead_after : (i : ℕ) (r : Running) → state_at after i ≡ Up r → (numberer_at numberers i).generation ≤ r.endpoint.generation
  ahead_after i r up = by (says.runs i r up)
    where
      next_of : (b : Option Begun) → IsNextAfter rs.next b after.next → b ≡ Some (begun_at i r.endpoint) → r.endpoint.generation ≡ rs.next
      next_of None n q = cc
      next_of (Some b) n q = let e : b ≡ begun_at i r.endpoint = cc in ap (λ (z : Begun). z.endpoint.generation) (sym e) ∙ n.0

      by : RanOrBegan (state_at rs i) says.begun i r.endpoint → (numberer_at numberers i).generation ≤ r.endpoint.generation
      by (inl (q, ran, same)) = subst (λ (z : EndpointRecord). (numberer_at numberers i).generation ≤ z.generation) same (k.ahead i q ran)
      by (inr began) = let g = next_of says.begun says.next began in let l = k.low i in omega arith

  pub act_keeps : IsKept after numberers (made ++ offers acts)
  act_keeps = record {
    settings = subst IsSettings settings_same k.settings;
    count = k.count ∙ ap (λ (z : SettingsRecord). length z.services) settings_same;
    some = omega (arith, k.some, next_rises);
    each = each_made;
    puts = puts_after;
    drawn = drawn_labels made (offers acts) k.drawn (λ c h. (offered_label c h).0);
    runs = runs_after;
    ahead = ahead_after;
    low = λ i. omega (arith, k.low i, next_rises);
  }
