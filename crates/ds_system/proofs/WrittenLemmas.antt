-- A service's change keeps the invariant of systems.
use Rattle.std.proofs.Common.{◌≡◌, ℕ, ◌<◌, ◌≤◌, Bool, true, false, not, cond, List, [], ◌∷◌, ◌++◌, length, Option, Some, None, Ok, Err}
use Rattle.std.proofs.Common.{refl, ap, sym, ◌∙◌, subst, inl, inr, ◌⊎◌, arith, Contains}
use Rattle.std.proofs.Math.ListN.{set, length-set}
use Rattle.std.proofs.lemmas.List.{get_or-set_same}
use Rattle.std.proofs.lemmas.List.Elements.{Contains-append_left, Contains-append_cases}
use Rattle.ds_names.specs.Endpoint.{EndpointRecord}
use Rattle.ds_names.specs.Kind.{is_label}
use Rattle.ds_names.specs.declared.key.Key.{Key}
use Rattle.ds_names.specs.declared.version.Version.{Version}
use Rattle.ds_names.proofs.Tests.{opposed}
use Rattle.ds_entry.specs.Change.{ChangeRecord, change_of, is_of_kind}
use Rattle.ds_entry.specs.declared.body.Body.{Body}
use Rattle.ds_entry.proofs.Members.{Contains-single}
use Rattle.rs_core.specs.declared.state.State.{State}
use Rattle.rs_core.specs.declared.state.State.TheVariants.{Down, Up, Waiting, GaveUp}
use Rattle.rs_core.specs.declared.state.Running.{Running}
use Rattle.rs_core.specs.Action.{label_put}
use Rattle.rs_core.specs.Numbering.{NumbererRecord, numberer, Gives}
use Rattle.rs_core.specs.Says.{place_of_label}
use Rattle.rs_core.specs.State.{RsRecord, state_at}
use Rattle.rs_core.proofs.SaysLemmas.{labels_found}
use Rattle.ds_system.specs.declared.outcome.SystemFault.TheVariants.{NotDeclared, BadKind, SeqSpent}
use Rattle.ds_system.specs.Drawing.{Instance, numberer_at, numbers_left, is_declared, is_spent, judged_kind, judged_state, judged_place}
use Rattle.ds_system.specs.Drawing.{judged}
use Rattle.ds_system.specs.Numbers.{IsBefore, IsDrawnBefore}
use Rattle.ds_system.proofs.Kept.{service_in, label_of_service, next_version, IsEntry, IsMade, IsKept}
use Rattle.ds_system.proofs.NumberLemmas.{after_write, numbers_of_generation, before_left, given_before, given_itself, drawn_more}
use Rattle.ds_system.proofs.SingleLemmas.{one_service, declared_no_label, entry_made, given}

-- ---- the change is allowed
pub record IsAllowed (rs : RsRecord) (label : List ℕ) (key : Key) (content : Body) (it : Instance) : Type 0 where
  pub there : it.place < length rs.settings.services
  pub label_is : label ≡ label_of_service rs.settings it.place
  pub up : state_at rs it.place ≡ Up it.running
  pub declared : is_declared (service_in rs.settings it.place) key ≡ true
  pub kind : is_of_kind key.kind content ≡ true

module _ (rs : RsRecord) (numberers : List NumbererRecord) (label : List ℕ) (key : Key) (content : Body) (it : Instance) where
  module _ (i : ℕ) (there : i < length rs.settings.services) (label_is : label ≡ label_of_service rs.settings i)
      (declared : is_declared (service_in rs.settings i) key ≡ true) where
    by_kind : (r : Running) → state_at rs i ≡ Up r → judged_kind numberers key content (record { place = i; running = r }) ≡ Ok it →
        IsAllowed rs label key content it
    by_kind r up e = of_kind (is_of_kind key.kind content) refl e
      where
        here : Instance
        here = record { place = i; running = r }

        allowed : is_of_kind key.kind content ≡ true → here ≡ it → IsAllowed rs label key content it
        allowed q same = subst (IsAllowed rs label key content) same
            (record { there = there; label_is = label_is; up = up; declared = declared; kind = q })

        of_number : is_of_kind key.kind content ≡ true → (b : Bool) → cond b (Err SeqSpent) (Ok here) ≡ Ok it →
            IsAllowed rs label key content it
        of_number q true e = cc
        of_number q false e = allowed q (let same : here ≡ it = cc in same)

        of_kind : (b : Bool) → is_of_kind key.kind content ≡ b →
            cond (not b) (Err BadKind) (cond (is_spent (numbers_left numberers here)) (Err SeqSpent) (Ok here)) ≡ Ok it →
            IsAllowed rs label key content it
        of_kind true q e = of_number q (is_spent (numbers_left numberers here)) e
        of_kind false q e = cc

    by_state : (state : State) → state_at rs i ≡ state → judged_state numberers key content i state ≡ Ok it →
        IsAllowed rs label key content it
    by_state (Up r) up e = by_kind r up e
    by_state Down up e = cc
    by_state (Waiting p) up e = cc
    by_state GaveUp up e = cc

  by_place : (o : Option ℕ) → place_of_label rs label ≡ o → judged_place rs numberers key content o ≡ Ok it →
      IsAllowed rs label key content it
  by_place None q e = cc
  by_place (Some i) q e = of_name (is_declared (service_in rs.settings i) key) refl e
    where
      at : (i < length rs.settings.services) × (label_of_service rs.settings i ≡ label)
      at = labels_found rs label i q

      of_name : (b : Bool) → is_declared (service_in rs.settings i) key ≡ b →
          cond (not b) (Err NotDeclared) (judged_state numberers key content i (state_at rs i)) ≡ Ok it → IsAllowed rs label key content it
      of_name true t h = by_state i at.0 (sym at.1) t (state_at rs i) refl h
      of_name false t h = cc

  pub judged_allowed : judged rs numberers label key content ≡ Ok it → IsAllowed rs label key content it
  judged_allowed e = by_place (place_of_label rs label) refl e

-- ---- a number was drawn, and the change was made
module _ (rs : RsRecord) (numberers : List NumbererRecord) (made : List ChangeRecord) (k : IsKept rs numberers made) (label : List ℕ)
    (key : Key) (content : Body) (it : Instance) (h : IsAllowed rs label key content it)
    (left : NumbererRecord) (number : Version) (drawn : Gives (numbers_left numberers it) left number) where
  abbrev change : ChangeRecord
  change = change_of key label number content

  abbrev numberers_after : List NumbererRecord
  numberers_after = set numberers it.place left

  no_label : is_label key.kind ≡ false
  no_label = declared_no_label (service_in rs.settings it.place) key h.declared

  own_ahead : (numberer_at numberers it.place).generation ≤ it.running.endpoint.generation
  own_ahead = k.ahead it.place it.running h.up

  -- the numbers left are of the instance's generation
  left_generation : left.generation ≡ it.running.endpoint.generation
  left_generation = ap (λ (z : NumbererRecord). z.generation) drawn.after ∙
      numbers_of_generation (numberer_at numberers it.place) it.running.endpoint.generation

  written : (i : ℕ) → (numberer_at numberers_after i ≡ numberer_at numberers i) ⊎ ((i ≡ it.place) × (numberer_at numberers_after i ≡ left))
  written i = after_write numberers it.place i left (numberer 0 0)

  own_written : numberer_at numberers_after it.place ≡ left
  own_written = get_or-set_same numberers it.place left (numberer 0 0) (subst (λ (n : ℕ). it.place < n) (sym k.count) h.there)

  -- what was drawn stays drawn
  still_drawn : (i : ℕ) (v : Version) → IsBefore v (next_version (numberer_at numberers i)) →
      IsBefore v (next_version (numberer_at numberers_after i))
  still_drawn i v b = elim (written i) [
    | inl e ↦ subst (λ (z : NumbererRecord). IsBefore v (next_version z)) (sym e) b
    | inr here ↦ subst (λ (z : NumbererRecord). IsBefore v (next_version z)) (sym here.1)
        (given_before (numbers_left numberers it) left v number drawn
        (before_left (numberer_at numberers it.place) it.running.endpoint.generation v own_ahead
        (subst (λ (n : ℕ). IsBefore v (next_version (numberer_at numberers n))) here.0 b)))
  ]

  made_still : (c : ChangeRecord) → IsMade rs.settings rs.next numberers c → IsMade rs.settings rs.next numberers_after c
  made_still c (inl p) = inl p
  made_still c (inr (inl p)) = inr (inl p)
  made_still c (inr (inr e)) = inr (inr (record {
    place = e.place;
    there = e.there;
    owner = e.owner;
    declared = e.declared;
    kind = e.kind;
    drawn =
        still_drawn e.place c.version e.drawn;
  }))

  change_made : IsEntry rs.settings numberers_after change
  change_made = record {
    place = it.place;
    there = h.there;
    owner = h.label_is;
    declared = h.declared;
    kind = h.kind;
    drawn = subst (λ (z : NumbererRecord). IsBefore number (next_version z)) (sym own_written)
        (given_itself (numbers_left numberers it) left number drawn);
  }

  each_made : (c : ChangeRecord) → Contains (made ++ change ∷ []) c → IsMade rs.settings rs.next numberers_after c
  each_made c i = elim (Contains-append_cases made (change ∷ []) c i) [
    | inl j ↦ made_still c (k.each c j)
    | inr j ↦ subst (IsMade rs.settings rs.next numberers_after) (sym (Contains-single change c j)) (inr (inr change_made))
  ]

  -- an earlier entry of the owner has an earlier version
  drawn_before : (c : ChangeRecord) → Contains made c → IsDrawnBefore c change
  drawn_before c i n m o =
      let e = entry_made rs.settings rs.next numberers c n (k.each c i) in
      let place : e.place ≡ it.place = one_service rs.settings k.settings e.place it.place e.there h.there
      (sym e.owner ∙ (o ∙ h.label_is)) in
      subst (IsBefore c.version) (sym drawn.value)
      (before_left (numberer_at numberers it.place) it.running.endpoint.generation c.version own_ahead
      (subst (λ (n : ℕ). IsBefore c.version (next_version (numberer_at numberers n))) place e.drawn))

  put_still : (l : List ℕ) (e : EndpointRecord) → Contains (made ++ change ∷ []) (label_put l e) → Contains made (label_put l e)
  put_still l e i = elim (Contains-append_cases made (change ∷ []) (label_put l e) i) [
    | inl j ↦ j
    | inr j ↦ opposed true refl (ap (λ (z : ChangeRecord). is_label z.key.kind) (Contains-single change (label_put l e) j) ∙ no_label)
  ]

  ahead_after : (i : ℕ) (r : Running) → state_at rs i ≡ Up r → (numberer_at numberers_after i).generation ≤ r.endpoint.generation
  ahead_after i r up = elim (written i) [
    | inl e ↦ subst (λ (z : NumbererRecord). z.generation ≤ r.endpoint.generation) (sym e) (k.ahead i r up)
    | inr here ↦ subst (λ (z : NumbererRecord). z.generation ≤ r.endpoint.generation) (sym here.1)
        (own (same_running it.running r (sym h.up ∙ (ap (state_at rs) (sym here.0) ∙ up))))
  ]
    where
      same_running : (q r : Running) → Up q ≡ Up r → q ≡ r
      same_running q r e = cc

      own : it.running ≡ r → left.generation ≤ r.endpoint.generation
      own same = let e : left.generation ≡ r.endpoint.generation = left_generation ∙ ap (λ (z : Running). z.endpoint.generation) same in
          omega arith

  low_after : (i : ℕ) → (numberer_at numberers_after i).generation < rs.next
  low_after i = elim (written i) [
    | inl e ↦ subst (λ (z : NumbererRecord). z.generation < rs.next) (sym e) (k.low i)
    | inr here ↦ subst (λ (z : NumbererRecord). z.generation < rs.next) (sym here.1)
        (subst (λ (n : ℕ). n < rs.next) (sym left_generation) (given rs numberers made k it.place it.running h.up).1)
  ]

  pub write_keeps : IsKept rs numberers_after (made ++ change ∷ [])
  write_keeps = record {
    settings = k.settings;
    count = length-set numberers it.place left ∙ k.count;
    some = k.some;
    each = each_made;
    puts = λ l m e f i j same. k.puts l m e f (put_still l e i) (put_still m f j) same;
    drawn = drawn_more made change k.drawn drawn_before;
    runs = λ i r up. Contains-append_left made (change ∷ []) _ (k.runs i r up);
    ahead = ahead_after;
    low = low_after;
  }
