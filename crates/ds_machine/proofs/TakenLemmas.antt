-- Changes that take the places of what is held all take effect.
use Rattle.std.proofs.Common.{◌≡◌, ℕ, ◌+◌, ◌<◌, ◌≤◌, Bool, true, false, not, ◌&&◌, ◌||◌, cond, nat_le, List, [], ◌∷◌, ◌++◌, length, map}
use Rattle.std.proofs.Common.{fold, Option, Some, None, is_none}
use Rattle.std.proofs.Common.{refl, ap, sym, ◌∙◌, subst, inl, inr, arith, Contains, append_assoc, append-nil, length-append, eq-eqb}
use Rattle.std.specs.declared.cmp.Ordering.{Ordering}
use Rattle.std.specs.Ordering.{is_eq, is_gt}
use Rattle.std.proofs.lemmas.Bool.{false≢true}
use Rattle.std.proofs.lemmas.Bool.Decides.{nat_tests}
use Rattle.std.proofs.lemmas.List.Elements.{Contains-push_cases, Contains-append_left}
use Rattle.ds_names.specs.Version.{version_cmp}
use Rattle.ds_names.specs.declared.key.Key.{Key}
use Rattle.ds_names.specs.Name.{is_same_name}
use Rattle.ds_entry.specs.Change.{ChangeRecord}
use Rattle.ds_entry.specs.ItemCovers.{covers}
use Rattle.ds_entry.specs.Void.{is_void, voids_it}
use Rattle.ds_entry.specs.declared.item.Item.{Item}
use Rattle.ds_entry.specs.declared.item.Item.TheVariants.{Change as Changed, Floor as Floored}
use Rattle.ds_entry.proofs.CoversLemmas.{covers-key}
use Rattle.ds_entry.proofs.Members.{Contains-head, Contains-tail, Contains-from_list_any}
use Rattle.ds_join.specs.ItemTop.{IsPartOf}
use Rattle.ds_names.specs.Limits.{last_place}
use Rattle.ds_machine.specs.Merging.{Course, item_merged, item_judged}
use Rattle.ds_machine.specs.Order.{first_cause}
use Rattle.ds_machine.specs.Parts.{held_at}
use Rattle.ds_machine.specs.Reached.{IsReached}
use Rattle.ds_machine.specs.Standing.{Standing, TakesPlace, cause_of, standing_of, against_change, on_held, is_same_body}
use Rattle.ds_machine.specs.State.{State, held, next_position, takes_effect}
use Rattle.ds_machine.specs.declared.refusal.Cause.{Cause}
use Rattle.ds_machine.proofs.PartLemmas.{changed_same, key_found, key_missing, one_change}
use Rattle.ds_machine.proofs.ReachedLemmas.{held_is_top, reached_more, with_accepted}
use Rattle.ds_machine.proofs.CourseLemmas.{item_news}
use Rattle.ds_machine.specs.Batches.{AreFree, FreeAreTaken, PlacesAreFree}
use Rattle.ds_machine.specs.Taken.{HasNoFloor, TakesHeld, KeysApart, PlacesAreTaken}

-- ---- a merge in which no cause applies to any item at its turn

abbrev course_of : State → ℕ → List Item → Course
course_of s done taken = record { state = s; done = done; taken = taken; stale = 0; stop = None }

free_course : (items : List Item) (s : State) (done : ℕ) (taken : List Item) → AreFree s items →
    fold item_merged (course_of s done taken) items ≡ course_of (takes_effect s items) (done + length items) (taken ++ items)
free_course [] s done taken free =
    ap (λ (l : List Item). course_of (with_accepted s l) done taken) (sym (append-nil s.feed.accepted)) ∙
    ap (λ (l : List Item). course_of (takes_effect s []) done l) (sym (append-nil taken)) ∙
    ap (λ (n : ℕ). course_of (takes_effect s []) n (taken ++ [])) (omega arith)
free_course (i ∷ items) s done taken free =
    let first : item_merged (course_of s done taken) i ≡ course_of (takes_effect s (i ∷ [])) (done + 1) (taken ++ i ∷ []) =
    ap (λ (o : Option Cause). item_judged (course_of s done taken) i o) free.0 in
    ap (λ (k : Course). fold item_merged k items) first
    ∙ free_course items (takes_effect s (i ∷ [])) (done + 1) (taken ++ i ∷ []) free.1
    ∙ ap (λ (l : List Item). course_of (with_accepted s l) (done + 1 + length items) ((taken ++ i ∷ []) ++ items))
    (append_assoc s.feed.accepted (i ∷ []) items)
    ∙ ap (λ (l : List Item). course_of (takes_effect s (i ∷ items)) (done + 1 + length items) l) (append_assoc taken (i ∷ []) items)
    ∙ ap (λ (n : ℕ). course_of (takes_effect s (i ∷ items)) n (taken ++ i ∷ items)) (omega arith)

-- ---- a change that takes a held one's place

six : {X : Type 0} (p q r s t u : X) (a b c d e f : Bool) → a ≡ false → b ≡ false → c ≡ false → d ≡ false → e ≡ false → f ≡ false →
    cond a (Some p) (cond b (Some q) (cond c (Some r) (cond d (Some s) (cond e (Some t) (cond f (Some u) None))))) ≡ None
six p q r s t u true b c d e f ha hb hc hd he hf = absurd (false≢true (sym ha))
six p q r s t u false true c d e f ha hb hc hd he hf = absurd (false≢true (sym hb))
six p q r s t u false false true d e f ha hb hc hd he hf = absurd (false≢true (sym hc))
six p q r s t u false false false true e f ha hb hc hd he hf = absurd (false≢true (sym hd))
six p q r s t u false false false false true f ha hb hc hd he hf = absurd (false≢true (sym he))
six p q r s t u false false false false false true ha hb hc hd he hf = absurd (false≢true (sym hf))
six p q r s t u false false false false false false ha hb hc hd he hf = refl

same_is : (m n : List ℕ) → m ≡ n → is_same_name m n ≡ true
same_is m n e = subst (λ (x : List ℕ). is_same_name m x ≡ true) e (itself m)
  where
    itself : (n : List ℕ) → is_same_name n n ≡ true
    itself [] = refl
    itself (x ∷ xs) = ap (λ (b : Bool). b && is_same_name xs xs) (eq-eqb x x refl) ∙ itself xs

none_against : (t : Standing) (h c : ChangeRecord) → t.held ≡ Some h → TakesPlace h c → t.void ≡ false →
    nat_le last_place t.position ≡ false → first_cause (Some c.version) (against_change t c) ≡ None
none_against t h c here place void left =
    six _ _ _ _ _ _ _ _ _ _ _ _
    (ap (λ (o : Option ChangeRecord). on_held o (λ x. not (is_same_name x.owner c.owner))) here ∙ ap not (same_is h.owner c.owner place.0))
    (ap (λ (o : Option ChangeRecord). on_held o (λ x. is_eq (version_cmp x.version c.version) && not (is_same_body x.body c.body))) here ∙
    ap (λ (r : Ordering). is_eq r && not (is_same_body h.body c.body)) place.1)
    (ap (λ (o : Option ChangeRecord). on_held o (λ x. is_gt (version_cmp x.version c.version)) || t.void) here ∙
    ap (λ (r : Ordering). is_gt r || t.void) place.1 ∙ void)
    (ap (λ (o : Option ChangeRecord). on_held o (λ x. is_eq (version_cmp x.version c.version) && is_same_body x.body c.body)) here ∙
    ap (λ (r : Ordering). is_eq r && is_same_body h.body c.body) place.1)
    (ap (λ (o : Option ChangeRecord). is_none o && nat_le t.most t.count) here)
    left

-- ---- what is held for a key stays if no item of the key follows

module _ (s t : State) (rs : IsReached s) (rt : IsReached t) (floors : HasNoFloor t) (part : IsPartOf s.feed.accepted t.feed.accepted) where
  -- what covers a change is one of its key
  covers_change : (items : List Item) → IsPartOf items t.feed.accepted → (c : ChangeRecord) (j : Item) → Contains items j →
      covers j (Changed c) ≡ true → (d : ChangeRecord) × (j ≡ Changed d) × (c.key ≡ d.key)
  covers_change items inside c (Changed d) h over = (d, refl, covers-key d c over)
  covers_change items inside c (Floored f) h over = absurd (floors f (inside (Floored f) h))

  stays_held : (c : ChangeRecord) → Contains (held s) (Changed c) →
      ((d : ChangeRecord) → Contains t.feed.accepted (Changed d) → c.key ≡ d.key → Contains s.feed.accepted (Changed d)) →
      held_at (held t) c.key ≡ Some c
  stays_held c here old = by_held (held_at (held t) c.key) refl
    where
      held_s : IsPartOf (held s) t.feed.accepted
      held_s i h = part i ((held_is_top s rs).among i h)

      held_t : IsPartOf (held t) t.feed.accepted
      held_t = (held_is_top t rt).among

      by_held : (o : Option ChangeRecord) → held_at (held t) c.key ≡ o → o ≡ Some c
      by_held None e =
          let over = (held_is_top t rt).greatest (Changed c) (held_s (Changed c) here) in
          let d = covers_change (held t) held_t c over.0 over.1 over.2 in
          absurd (key_missing (held t) c.key d.0 e (subst (λ (x : Item). Contains (held t) x) d.1 over.1) d.2)
      by_held (Some h) e =
          let at = key_found (held t) c.key h e in
          -- what covers `c` in the later state is `h`
          let over = (held_is_top t rt).greatest (Changed c) (held_s (Changed c) here) in
          let d = covers_change (held t) held_t c over.0 over.1 over.2 in
          let one : d.0 ≡ h = one_change (held t) t.feed.accepted (held_is_top t rt) d.0 h
          (subst (λ (x : Item). Contains (held t) x) d.1 over.1) at.0 (sym d.2 ∙ at.1) in
          let there : covers (Changed h) (Changed c) ≡ true =
          subst (λ (x : Item). covers x (Changed c) ≡ true) (d.1 ∙ ap Changed one) over.2 in
          -- what covers `h` in the earlier state is `c`
          let under = (held_is_top s rs).greatest (Changed h) (old h (held_t (Changed h) at.0) at.1) in
          let b = covers_change (held s) held_s h under.0 under.1 under.2 in
          let same : b.0 ≡ c = one_change (held s) s.feed.accepted (held_is_top s rs) b.0 c
          (subst (λ (x : Item). Contains (held s) x) b.1 under.1) here (sym b.2 ∙ sym at.1) in
          let back : covers (Changed c) (Changed h) ≡ true =
          subst (λ (x : Item). covers x (Changed h) ≡ true) (b.1 ∙ ap Changed same) under.2 in
          ap Some (changed_same h c (rt.exact (Changed h) (Changed c) (held_t (Changed h) at.0) (held_s (Changed c) here) back there))

-- no floor makes it void
none_void : (s : State) → IsReached s → HasNoFloor s → (c : ChangeRecord) → is_void (held s) c ≡ false
none_void s r floors c = by_test (is_void (held s) c) refl
  where
    no_item : (j : Item) → Contains (held s) j → voids_it c j ≡ true → ⊥
    no_item (Changed d) h e = false≢true e
    no_item (Floored f) h e = floors f ((held_is_top s r).among (Floored f) h)

    by_test : (b : Bool) → is_void (held s) c ≡ b → is_void (held s) c ≡ false
    by_test false e = e
    by_test true e = let j = Contains-from_list_any (voids_it c) (held s) e in absurd (no_item j.0 j.1 j.2)

not_full : (n : ℕ) → n < last_place → nat_le last_place n ≡ false
not_full n lt = grind (arith, nat_tests)

-- ---- in order

no_floor_more : (t : State) (c : ChangeRecord) → HasNoFloor t → HasNoFloor (takes_effect t (Changed c ∷ []))
no_floor_more t c floors f h = elim (Contains-push_cases t.feed.accepted (Changed c) (Floored f) h) [
  | inl k ↦ floors f k
  | inr e ↦ absurd (cc)
]

are_free : (s t : State) (cs : List ChangeRecord) → IsReached s → IsReached t → HasNoFloor t → IsPartOf s.feed.accepted t.feed.accepted →
    ((c : ChangeRecord) → Contains cs c → TakesHeld s c) → KeysApart cs
    → ((c d : ChangeRecord) → Contains cs c → Contains t.feed.accepted (Changed d) → c.key ≡ d.key → Contains s.feed.accepted (Changed d))
    → next_position t + length cs ≤ last_place → AreFree t (map Changed cs)
are_free s t [] rs rt floors part takes apart old left = tt
are_free s t (c ∷ cs) rs rt floors part takes apart old left =
    let held_c = takes c (Contains-head c cs) in
    let here : held_at (held t) c.key ≡ Some held_c.over =
    subst (λ (k : Key). held_at (held t) k ≡ Some held_c.over) held_c.key
    (stays_held s t rs rt floors part held_c.over held_c.here (λ d h e. old c d (Contains-head c cs) h (sym held_c.key ∙ e))) in
    let free : cause_of t (Changed c) ≡ None =
    none_against (standing_of t c) held_c.over c here held_c.place (none_void t rt floors c)
    (not_full (next_position t) (omega (arith, left))) in (
      free,
      are_free s (takes_effect t (Changed c ∷ [])) cs rs (reached_more t (Changed c) rt (item_news t (Changed c) rt free))
          (no_floor_more t c floors)
          (λ i h. Contains-append_left t.feed.accepted (Changed c ∷ []) i (part i h))
          (λ d h. takes d (Contains-tail c cs d h)) apart.1
          (λ a d h k e. elim (Contains-push_cases t.feed.accepted (Changed c) (Changed d) k) [
            | inl l ↦ old a d (Contains-tail c cs a h) l e
            | inr q ↦ absurd (apart.0 a h (sym (e ∙ ap (λ (x : ChangeRecord). x.key) (sym (changed_same c d q)))))
          ])
          (omega (arith, left, length-append t.feed.accepted (Changed c ∷ []))),
    )

pub places_are_free : PlacesAreFree
places_are_free s cs r floors takes apart left = are_free s s cs r r floors (λ i h. h) takes apart (λ c d h k e. k) left

pub free_are_taken : FreeAreTaken
free_are_taken s items free = free_course items s 0 [] free ∙ ap (λ (n : ℕ). course_of (takes_effect s items) n items) (omega arith)

pub places_are_taken : PlacesAreTaken
places_are_taken s cs r floors takes apart left = free_are_taken s (map Changed cs) (places_are_free s cs r floors takes apart left)
