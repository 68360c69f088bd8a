-- A label's state while a table follows its map.
use Rattle.std.proofs.Common.{◌≡◌, ◌==◌, ◌||◌, ℕ, Bool, true, false, cond, List, [], ◌∷◌, map, Option, Some, None, refl, ap, sym, ◌∙◌}
use Rattle.std.proofs.Common.{subst, inl, inr, ◌⊎◌}
use Rattle.std.proofs.lemmas.Bool.{or_left, or_right}
use Rattle.ds_names.specs.Endpoint.{EndpointRecord}
use Rattle.ds_names.specs.Key.{label_key}
use Rattle.ds_names.specs.Name.{is_same_name}
use Rattle.ds_names.proofs.Tests.{opposed}
use Rattle.ds_entry.specs.Change.{ChangeRecord}
use Rattle.ds_entry.specs.Left.{endpoint_in}
use Rattle.ds_entry.specs.declared.item.Item.{Item}
use Rattle.ds_entry.proofs.Members.{In}
use Rattle.ds_held.proofs.MergeLemmas.{no_some}
use Rattle.ds_machine.specs.Parts.{held_at}
use Rattle.driver_tables.specs.declared.moves.Move.{Move}
use Rattle.driver_tables.specs.declared.fault.TableFault.{TableFault}
use Rattle.driver_tables.specs.Driver.{Driver, driver_of, has_label}
use Rattle.driver_tables.specs.DriverTable.{DriverTable}
use Rattle.driver_tables.specs.Label.{LabelState, endpoint_now, newest, newer, is_old, is_old_for}
use Rattle.driver_tables.proofs.TestLemmas.{same_name, name_itself}
use Rattle.driver_tables.proofs.UnitLemmas.{now_after, newest_after}
use Rattle.rs_to_store.specs.News.{is_old_tombstone}
use Rattle.rs_to_store.specs.Following.{Follows}
use Rattle.rs_to_store.proofs.FollowLemmas.{follows_keep_units}
use Rattle.ds_system.specs.Sending.{is_late, is_passed, IsAsBefore}
use Rattle.ds_system.proofs.CutLemmas.{table_past, CutAt, at_label}
use Rattle.ds_system.proofs.NewsLemmas.{same_some, Skips, Notes, skips_or_notes}

-- the state that a table records for a label
abbrev pub noted : List ℕ → Option EndpointRecord → LabelState
noted l state = record { label = l; endpoint = state }

-- ---- a label of which the map has a change
module _ (held : List Item) (label : List ℕ) (c : ChangeRecord) (there : held_at held (label_key label) ≡ Some c) where
  -- its state is unchanged; or the map's change wasn't passed over, and is the label's state now
  abbrev Went : DriverTable → DriverTable → Type 0
  Went t u = IsAsBefore t u label ⊎ ((is_passed t label c ≡ false) × (endpoint_now u.states label ≡ endpoint_in c.body))

  as_it_is : (t u : DriverTable) → u ≡ t → IsAsBefore t u label
  as_it_is t u e =
      record { now = ap (λ (z : DriverTable). endpoint_now z.states label) e; newest = ap (λ (z : DriverTable). newest z.states label) e }

  as_twice : (t x u : DriverTable) → IsAsBefore t x label → IsAsBefore x u label → IsAsBefore t u label
  as_twice t x u p q = record { now = q.now ∙ p.now; newest = q.newest ∙ p.newest }

  passed_same : (t x : DriverTable) → IsAsBefore t x label → is_passed x label c ≡ is_passed t label c
  passed_same t x p =
      ap (λ (g : Option ℕ). passed_by g (endpoint_now x.states label)) p.newest ∙ ap (passed_by (newest t.states label)) p.now
    where
      passed_by : Option ℕ → Option EndpointRecord → Bool
      passed_by g e = is_old_tombstone g c.version.epoch c.body || is_old g e (endpoint_in c.body)

  went_past : (x : DriverTable) (l : List ℕ) → Went x (table_past held x l)
  went_past x l = elim (skips_or_notes held x l)
      [ inl s ↦ inl (as_it_is x (table_past held x l) s.past) | inr n ↦ by n (is_same_name l label) refl ]
    where
      now_by : (n : Notes held x l) (b : Bool) → is_same_name l label ≡ b →
          endpoint_now (table_past held x l).states label ≡ cond b (endpoint_in n.change.body) (endpoint_now x.states label)
      now_by n b q =
          ap (λ (z : DriverTable). endpoint_now z.states label) n.past
          ∙ (now_after x.states (noted l (endpoint_in n.change.body)) label ∙
          ap (λ (b : Bool). cond b (endpoint_in n.change.body) (endpoint_now x.states label)) q)

      newest_by : (n : Notes held x l) (b : Bool) → is_same_name l label ≡ b →
          newest (table_past held x l).states label ≡ cond b (newer (newest x.states label) (endpoint_in n.change.body))
          (newest x.states label)
      newest_by n b q =
          ap (λ (z : DriverTable). newest z.states label) n.past
          ∙ (newest_after x.states (noted l (endpoint_in n.change.body)) label ∙
          ap (λ (b : Bool). cond b (newer (newest x.states label) (endpoint_in n.change.body)) (newest x.states label)) q)

      by : (n : Notes held x l) (b : Bool) → is_same_name l label ≡ b → Went x (table_past held x l)
      by n false q = inl (record { now = now_by n false q; newest = newest_by n false q })
      by n true q = inr (
        subst (λ (d : ChangeRecord). is_passed x label d ≡ false) one (subst (λ (k : List ℕ). is_passed x k n.change ≡ false) same n.fresh),
        now_by n true q ∙ ap (λ (d : ChangeRecord). endpoint_in d.body) one,
      )
        where
          same : l ≡ label
          same = same_name l label q

          one : n.change ≡ c
          one = same_some n.change c (sym n.there ∙ (ap (λ (k : List ℕ). held_at held (label_key k)) same ∙ there))

  went_on : (t x u : DriverTable) → Went t x → Went x u → Went t u
  went_on t x u (inl p) (inl q) = inl (as_twice t x u p q)
  went_on t x u (inl p) (inr q) = inr (sym (passed_same t x p) ∙ q.0, q.1)
  went_on t x u (inr p) (inl q) = inr (p.0, q.now ∙ p.1)
  went_on t x u (inr p) (inr q) = inr (p.0, q.1)

  pub follow_went : (labels : List (List ℕ)) (t : DriverTable) (rounds : List (List Move)) (fault : Option TableFault) (u : DriverTable) →
      Follows held labels t rounds fault u → Went t u
  follow_went [] t rounds fault u f = inl (as_it_is t u f.2)
  follow_went (l ∷ labels) t rounds fault u (inl (later, is, rest)) =
      went_on t (table_past held t l) u (went_past t l) (follow_went labels (table_past held t l) later fault u rest)
  follow_went (l ∷ labels) t rounds fault u (inr stop) = inl (as_it_is t u stop.table_is)

  -- so a late tombstone changes nothing
  pub late_stays : (labels : List (List ℕ)) (t : DriverTable) (rounds : List (List Move)) (fault : Option TableFault) (u : DriverTable) →
      is_late t label c ≡ true → Follows held labels t rounds fault u → IsAsBefore t u label
  late_stays labels t rounds fault u late f = elim (follow_went labels t rounds fault u f) [
    | inl p ↦ p
    | inr q ↦ opposed (is_passed t label c) (or_left (is_late t label c) (is_old_for t.states label (endpoint_in c.body)) late) q.0
  ]

  -- if all labels were followed, the label is as the map has it, or that was passed over
  abbrev pub Settled : DriverTable → DriverTable → Type 0
  Settled t u = (endpoint_now u.states label ≡ endpoint_in c.body) ⊎ ((is_passed t label c ≡ true) × IsAsBefore t u label)

  from_now : (t x u : DriverTable) → endpoint_now x.states label ≡ endpoint_in c.body → Went x u → Settled t u
  from_now t x u now (inl q) = inl (q.now ∙ now)
  from_now t x u now (inr q) = inl q.1

  pub all_settled : (labels : List (List ℕ)) (t : DriverTable) (rounds : List (List Move)) (u : DriverTable) → In label labels →
      has_label t.units label ≡ true → Follows held labels t rounds None u → Settled t u
  all_settled labels t rounds u i has f = by (follow_went cut.front t cut.first None cut.x cut.before) (skips_or_notes held cut.x label)
    where
      cut : CutAt held t None u label
      cut = at_label held labels t rounds u label i f

      later_went : Went (table_past held cut.x label) u
      later_went = follow_went cut.back (table_past held cut.x label) cut.later None u cut.past

      has_then : has_label cut.x.units label ≡ true
      has_then = ap (λ (z : List (ℕ × Driver)). has_label z label) (follows_keep_units held cut.front t cut.x cut.first None cut.before).0
          ∙ has

      now_then : Notes held cut.x label → endpoint_now (table_past held cut.x label).states label ≡ endpoint_in c.body
      now_then n =
          ap (λ (z : DriverTable). endpoint_now z.states label) n.past
          ∙ (now_after cut.x.states (noted label (endpoint_in n.change.body)) label
          ∙ (ap (λ (b : Bool). cond b (endpoint_in n.change.body) (endpoint_now cut.x.states label)) (name_itself label)
          ∙ ap (λ (d : ChangeRecord). endpoint_in d.body) (same_some n.change c (sym n.there ∙ there))))

      by : Went t cut.x → Skips held cut.x label ⊎ Notes held cut.x label → Settled t u
      by (inl p) (inl s) = elim (subst (λ (z : DriverTable). Went z u) s.past later_went) [
        | inl q ↦ inr (sym (passed_same t cut.x p) ∙ s.why c there has_then, as_twice t cut.x u p q)
        | inr q ↦ inl q.1
      ]
      by (inr p) (inl s) = from_now t cut.x u p.1 (subst (λ (z : DriverTable). Went z u) s.past later_went)
      by w (inr n) = from_now t (table_past held cut.x label) u (now_then n) later_went

abbrev labels_in : List (ℕ × Driver) → List (List ℕ)
labels_in units = map (λ (u : ℕ × Driver). u.1.label) units

-- the label of a unit is one of the table's labels
pub label_listed : (units : List (ℕ × Driver)) (label : List ℕ) → has_label units label ≡ true → In label (labels_in units)
label_listed [] label h = opposed false h refl
label_listed (u ∷ units) label h = by (is_same_name label u.1.label) refl h (label_listed units label)
  where
    by : (b : Bool) → is_same_name label u.1.label ≡ b → b || has_label units label ≡ true →
        (has_label units label ≡ true → In label (labels_in units)) → (label ≡ u.1.label) ⊎ In label (labels_in units)
    by true q k rest = inl (same_name label u.1.label q)
    by false q k rest = inr (rest k)

-- the label of a driver is the label of a unit
pub driver_listed : (units : List (ℕ × Driver)) (unit : ℕ) (d : Driver) → driver_of units unit ≡ Some d → has_label units d.label ≡ true
driver_listed [] unit d h = no_some d h
driver_listed (u ∷ units) unit d h = by (unit == u.0) h (driver_listed units unit d)
  where
    by : (b : Bool) → cond b (Some u.1) (driver_of units unit) ≡ Some d →
        (driver_of units unit ≡ Some d → has_label units d.label ≡ true) → is_same_name d.label u.1.label || has_label units d.label ≡ true
    by true k rest = or_left (is_same_name d.label u.1.label) (has_label units d.label)
        (ap (λ (z : Driver). is_same_name d.label z.label) (same_some u.1 d k) ∙ name_itself d.label)
    by false k rest = or_right (is_same_name d.label u.1.label) (has_label units d.label) (rest k)
