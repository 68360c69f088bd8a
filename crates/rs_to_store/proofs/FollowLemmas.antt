-- How a driver table follows a map, label by label.
use Rattle.std.proofs.Common.{◌≡◌, ◌≢◌, ℕ, zero, suc, ◌+◌, ◌≤◌, ◌||◌, Bool, true, false, List, [], ◌∷◌, ◌++◌, length, take, drop, Option}
use Rattle.std.proofs.Common.{Some, None, Result, Ok, Err, refl, ap, sym, ◌∙◌, subst, inl, inr, arith, append_assoc, append-nil}
use Rattle.std.proofs.Common.{cond}
use Rattle.std.specs.List.{slice_get, AllByRecursion}
use Rattle.std.specs.Option.{option_map}
use Rattle.std.proofs.lemmas.List.{take-append-drop, take_more, take_all, length-map}
use Rattle.std.proofs.lemmas.Option.{slice_get-map, slice_get_within, get_or_from_slice_get}
use Rattle.ds_names.specs.Endpoint.{EndpointRecord}
use Rattle.ds_names.specs.Name.{is_same_name}
use Rattle.ds_names.specs.declared.key.Key.{Key}
use Rattle.ds_entry.specs.Change.{ChangeRecord}
use Rattle.ds_entry.specs.declared.item.Item.{Item}
use Rattle.ds_entry.specs.declared.item.Item.TheVariants.{Change as Changed}
use Rattle.ds_entry.proofs.Members.{Contains-head, Contains-tail}
use Rattle.ds_held.specs.Held.{Holding, IsSound, held_items, held_for}
use Rattle.ds_held.proofs.HeldLemmas.{change_in, is_held}
use Rattle.ds_machine.specs.Parts.{held_at}
use Rattle.ds_machine.proofs.PartLemmas.{key_found, key_missing}
use Rattle.driver_tables.specs.declared.moves.Move.{Move}
use Rattle.driver_tables.specs.declared.fault.TableFault.{TableFault}
use Rattle.driver_tables.specs.declared.fault.TableFault.TheVariants as faults
use Rattle.driver_tables.specs.declared.fault.TableFault.TheVariants.{NoRoom, OldEndpoint}
use Rattle.driver_tables.specs.Driver.{Driver, has_label}
use Rattle.driver_tables.specs.Label.{endpoint_now, newest, is_same_state, is_old}
use Rattle.driver_tables.specs.Answer.{IsAnswer}
use Rattle.driver_tables.specs.DriverTable.{DriverTable}
use Rattle.driver_tables.specs.Changed.{changing}
use Rattle.driver_tables.specs.Run.{Entry}
use Rattle.driver_tables.specs.Run as calls
use Rattle.driver_tables.specs.Stands.{TableRecord, TableStands}
use Rattle.driver_tables.proofs.TestLemmas.{name_itself}
use Rattle.driver_tables.proofs.ListLemmas.{drop_at_get}
use Rattle.driver_tables.proofs.RunLemmas.{changed_so}
use Rattle.ds_entry.specs.Left.{endpoint_in}
use Rattle.ds_entry.specs.declared.body.Body.{Body}
use Rattle.ds_entry.specs.declared.body.Body.TheVariants.{Put, Gone}
use Rattle.rs_to_store.specs.News.{is_old_tombstone, newest_for, told_by}
use Rattle.rs_to_store.specs.Following.{labels_of, news_of, as_round, taking, Follows}
use Rattle.rs_to_store.specs.Laws.{IsOfLabels, IsRunOf, FollowsAreRuns, FollowsKeepUnits, FollowsEndForRoom}

-- ---- what a map holds for a key
module _ (h : Holding) (sound : IsSound h) where
  pub item_for : (key : Key) → held_for h key ≡ held_at (held_items h) key
  item_for key = by (held_for h key) refl (held_at (held_items h) key) refl
    where
      found : (c : ChangeRecord) → held_at (held_items h) key ≡ Some c → held_for h key ≡ Some c
      found c e = let at = key_found (held_items h) key c e in ap (held_for h) at.1 ∙ is_held h sound (Changed c) at.0

      by : (o : Option ChangeRecord) → held_for h key ≡ o → (p : Option ChangeRecord) → held_at (held_items h) key ≡ p → o ≡ p
      by o e (Some c) f = sym e ∙ found c f
      by None e None f = refl
      by (Some c) e None f = absurd (key_missing (held_items h) key c f (change_in h key c e) (sym (sound.own key c e)))

-- the first i elements and the next one
take_at_get : {X : Type 0} (xs : List X) (i : ℕ) (x : X) → slice_get xs i ≡ Some x → take (i + 1) xs ≡ take i xs ++ x ∷ []
take_at_get xs i x e = take_more xs i x (slice_get_within xs i x e) ∙ ap (λ y. take i xs ++ y ∷ []) (get_or_from_slice_get xs i x x e)

-- ---- a new state of a label that a unit has
-- the table has the units and the requests of the other one
abbrev pub HasUnitsOf : DriverTable → DriverTable → Type 0
HasUnitsOf t u = (u.units ≡ t.units) × (u.requests ≡ t.requests)

units_kept : (t : DriverTable) (label : List ℕ) (state : Option EndpointRecord) → HasUnitsOf t (changing t label state).1
units_kept t label state = by (has_label t.units label) (is_old (newest t.states label) (endpoint_now t.states label) state)
  where
    by : (has old : Bool) → HasUnitsOf t (changed_so t label state has old (is_same_state (endpoint_now t.states label) state)).1
    by false old = (refl, refl)
    by true true = (refl, refl)
    by true false = (refl, refl)

taking_keeps : (t : DriverTable) (label : List ℕ) (news : Option (Option EndpointRecord)) → HasUnitsOf t (taking t label news).1
taking_keeps t label None = (refl, refl)
taking_keeps t label (Some state) = by (changing t label state) (units_kept t label state)
  where
    by : (out : Result (List Move) TableFault × DriverTable) → HasUnitsOf t out.1 → HasUnitsOf t (as_round t out).1
    by (Ok moves, u) k = k
    by (Err fault, u) k = (refl, refl)

-- some unit has the label at an index
has_label_at : (units : List (ℕ × Driver)) (index : ℕ) (label : List ℕ) →
    option_map (λ (u : ℕ × Driver). u.1.label) (slice_get units index) ≡ Some label → has_label units label ≡ true
has_label_at [] index label e = absurd (let n : None ≡ Some label = e in cc)
has_label_at (u ∷ units) zero label e =
    let same : u.1.label ≡ label = (let q : Some u.1.label ≡ Some label = e in cc) in
    let here : is_same_name label u.1.label ≡ true = ap (is_same_name label) same ∙ name_itself label in
    ap (λ (b : Bool). b || has_label units label) here
has_label_at (u ∷ units) (suc index) label e = by (is_same_name label u.1.label) (has_label_at units index label e)
  where
    by : (b : Bool) → has_label units label ≡ true → (b || has_label units label) ≡ true
    by true h = refl
    by false h = h

module _ (t : DriverTable) (label : List ℕ) (state : Option EndpointRecord) (has : has_label t.units label ≡ true) where
  -- an old state is refused as OldEndpoint
  old_refused : is_old (newest t.states label) (endpoint_now t.states label) state ≡ true → changing t label state ≡ (Err OldEndpoint, t)
  old_refused old = ap (λ (b : Bool). changed_so t label state b (is_old (newest t.states label) (endpoint_now t.states label) state)
      (is_same_state (endpoint_now t.states label) state)) has
      ∙ ap (λ (b : Bool). changed_so t label state true b (is_same_state (endpoint_now t.states label) state)) old

  -- another state is accepted
  new_taken : is_old (newest t.states label) (endpoint_now t.states label) state ≡ false →
      (moves : List Move) × (u : DriverTable) × (changing t label state ≡ (Ok moves, u))
  new_taken new = (
    _,
    _,
    ap (λ (b : Bool). changed_so t label state b (is_old (newest t.states label) (endpoint_now t.states label) state)
        (is_same_state (endpoint_now t.states label) state)) has
        ∙ ap (λ (b : Bool). changed_so t label state true b (is_same_state (endpoint_now t.states label) state)) new,
  )

-- ---- follows in sequence
pub follows_on : (held : List Item) (front back : List (List ℕ)) (t mid u : DriverTable) (done later : List (List Move))
    (fault : Option TableFault) → Follows held front t done None mid → Follows held back mid later fault u
    → Follows held (front ++ back) t (done ++ later) fault u
follows_on held [] back t mid u done later fault f g =
    subst (λ (z : List (List Move)). Follows held back t (z ++ later) fault u) (sym f.0)
    (subst (λ (z : DriverTable). Follows held back z later fault u) f.2 g)
follows_on held (label ∷ front) back t mid u done later fault (inl (rest, e, f)) g =
    let round = (taking t label (news_of held t label)).0 in
    inl (
      rest ++ later,
      ap (λ (z : List (List Move)). z ++ later) e ∙
          append_assoc round rest later,
      follows_on held front back (taking t label (news_of held t label)).1 mid u rest later fault f g,
    )
follows_on held (label ∷ front) back t mid u done later fault (inr ends) g = absurd (let n : None ≡ Some NoRoom = ends.fault_is in cc)

-- one label, followed by its round
one_label : (held : List Item) (t : DriverTable) (label : List ℕ) →
    Follows held (label ∷ []) t (taking t label (news_of held t label)).0 None (taking t label (news_of held t label)).1
one_label held t label = inl ([], sym (append-nil _), (refl, refl, refl))

-- ---- the laws
pub follows_keep_units : FollowsKeepUnits
follows_keep_units held [] t u rounds fault f = (ap (λ (x : DriverTable). x.units) f.2, ap (λ (x : DriverTable). x.requests) f.2)
follows_keep_units held (label ∷ labels) t u rounds fault (inl (later, e, f)) =
    let kept = taking_keeps t label (news_of held t label) in
    let rest = follows_keep_units held labels (taking t label (news_of held t label)).1 u later fault f in
    (rest.0 ∙ kept.0, rest.1 ∙ kept.1)
follows_keep_units held (label ∷ labels) t u rounds fault (inr ends) =
    (ap (λ (x : DriverTable). x.units) ends.table_is, ap (λ (x : DriverTable). x.requests) ends.table_is)

more_labels : (label : List ℕ) (labels : List (List ℕ)) (entries : List Entry) → AllByRecursion (IsOfLabels labels) entries →
    AllByRecursion (IsOfLabels (label ∷ labels)) entries
more_labels label labels [] all = tt
more_labels label labels (entry ∷ entries) ((name, state, there, is), all) =
    ((name, state, Contains-tail label labels name there, is), more_labels label labels entries all)

-- a label that is passed over, and one with a round, before a run
before_run : (label : List ℕ) (labels : List (List ℕ)) (t u : DriverTable) (state : Option EndpointRecord) (later : List (List Move))
    (out : Result (List Move) TableFault × DriverTable) → changing t label state ≡ out
    → IsRunOf labels (as_round t out).1 later u → IsRunOf (label ∷ labels) t ((as_round t out).0 ++ later) u
before_run label labels t u state later (Err fault, mid) is r =
    record { entries = r.entries; run = r.run; rounds_are = r.rounds_are; of_labels = more_labels label labels r.entries r.of_labels }
before_run label labels t u state later (Ok moves, mid) is r = record {
  entries = entry ∷ r.entries;
  run = (
    mid,
    record {
      answer_is = sym (ap (λ (p : Result (List Move) TableFault × DriverTable). p.0) is);
      after =
          sym (ap (λ (p : Result (List Move) TableFault × DriverTable). p.1) is);
      unchanged = tt;
    },
    r.run,
  );
  rounds_are = ap (λ (z : List (List Move)). moves ∷ z) r.rounds_are;
  of_labels = ((label, state, Contains-head label labels, refl), more_labels label labels r.entries r.of_labels);
}
  where
    entry : Entry
    entry = record { call = calls.Changed label state; answer = Ok moves }

pub follows_are_runs : FollowsAreRuns
follows_are_runs held [] t u rounds fault f = record { entries = []; run = sym f.2; rounds_are = f.0; of_labels = tt }
follows_are_runs held (label ∷ labels) t u rounds fault (inl (later, e, f)) =
    subst (λ (z : List (List Move)). IsRunOf (label ∷ labels) t z u) (sym e)
    (by (news_of held t label) (follows_are_runs held labels (taking t label (news_of held t label)).1 u later fault f))
  where
    by : (news : Option (Option EndpointRecord)) → IsRunOf labels (taking t label news).1 later u →
        IsRunOf (label ∷ labels) t ((taking t label news).0 ++ later) u
    by None r =
        record { entries = r.entries; run = r.run; rounds_are = r.rounds_are; of_labels = more_labels label labels r.entries r.of_labels }
    by (Some state) r = before_run label labels t u state later (changing t label state) refl r
follows_are_runs held (label ∷ labels) t u rounds fault (inr ends) =
    record { entries = []; run = sym ends.table_is; rounds_are = ends.rounds_are; of_labels = tt }

pub follows_end_for_room : FollowsEndForRoom
follows_end_for_room held [] t u rounds fault f = absurd (let n : Some fault ≡ None = f.1 in cc)
follows_end_for_room held (label ∷ labels) t u rounds fault (inl (later, e, f)) =
    let rest = follows_end_for_room held labels (taking t label (news_of held t label)).1 u later fault f in (
      rest.0,
      record {
        before = label ∷ rest.1.before;
        label = rest.1.label;
        after = rest.1.after;
        labels_are = ap (λ (z : List (List ℕ)). label ∷ z) rest.1.labels_are;
        followed = inl (later, e, rest.1.followed);
        round = rest.1.round;
      },
    )
follows_end_for_room held (label ∷ labels) t u rounds fault (inr ends) = (
  (let q : Some fault ≡ Some NoRoom = ends.fault_is in cc),
  record {
    before = [];
    label = label;
    after = labels;
    labels_are = refl;
    followed = (ends.rounds_are, refl, ends.table_is);
    round = subst (λ (z : DriverTable). (taking z label (news_of held z label)).0 ≢ []) (sym ends.table_is) ends.some;
  },
)

-- a put tells the same whatever the newest generation is
pub told_so : (c : ChangeRecord) (newest : Option ℕ) → told_by (newest_for c.body newest) c ≡ told_by newest c
told_so c newest = ap (λ (b : Bool). cond b None (Some (endpoint_in c.body))) (by c.body)
  where
    by : (body : Body) → is_old_tombstone (newest_for body newest) c.version.epoch body ≡ is_old_tombstone newest c.version.epoch body
    by (Put value) = refl
    by Gone = refl

-- ---- the walk
-- the labels before the index were followed, with their rounds appended, to a table that the value stands for now
pub record Walked (held : List Item) (t : DriverTable) (before : List (List Move)) (index : ℕ) (now : TableRecord)
    (rounds : List (List Move)) : Type 0 where
  pub at : DriverTable
  pub done : List (List Move)
  pub rounds_are : rounds ≡ before ++ done
  pub followed : Follows held (take index (labels_of t)) t done None at
  pub stands : TableStands now at

abbrev pub AllWalked : List Item → TableRecord → List (List Move) → ℕ → TableRecord → List (List Move) → Type 0
AllWalked held old before index now rounds = (t : DriverTable) → TableStands old t → Walked held t before index now rounds

-- the result of the walk
abbrev pub Reaches : List Item → DriverTable → List (List Move) → TableRecord → List (List Move) → Option TableFault → Type 0
Reaches held t before now rounds fault = (u : DriverTable) × (later : List (List Move)) × (rounds ≡ before ++ later) ×
    Follows held (labels_of t) t later fault u × TableStands now u

pub walk_begins : (held : List Item) (old : TableRecord) (before : List (List Move)) → AllWalked held old before 0 old before
walk_begins held old before t st =
    record { at = t; done = []; rounds_are = sym (append-nil before); followed = (refl, refl, refl); stands = st }

module _ (held : List Item) (t : DriverTable) (before : List (List Move)) (index : ℕ) (now : TableRecord) (rounds : List (List Move))
    (w : Walked held t before index now rounds) where
  pub units_still : w.at.units ≡ t.units
  units_still = (follows_keep_units held (take index (labels_of t)) t w.at w.done None w.followed).0

  -- the walk ends: all labels were followed
  pub walk_ends : length t.units ≤ index → Reaches held t before now rounds None
  walk_ends l = (
    w.at,
    w.done,
    w.rounds_are,
    subst (λ (z : List (List ℕ)). Follows held z t w.done None w.at) (take_all index (labels_of t) many)
        w.followed,
    w.stands,
  )
    where
      many : length (labels_of t) ≤ index
      many = let e : length (labels_of t) ≡ length t.units = length-map t.units (λ (u : ℕ × Driver). u.1.label) in omega arith

  -- no label is at the index
  pub none_there : None ≡ option_map (λ (u : ℕ × Driver). u.1.label) (slice_get w.at.units index) → length t.units ≤ index
  none_there e = past t.units index (sym (ap (λ (l : List (ℕ × Driver)). option_map (λ (u : ℕ × Driver). u.1.label) (slice_get l index))
      (sym units_still) ∙ sym e))
    where
      past : (units : List (ℕ × Driver)) (i : ℕ) → None ≡ option_map (λ (u : ℕ × Driver). u.1.label) (slice_get units i) → length units ≤ i
      past [] i q = omega arith
      past (u ∷ units) zero q = absurd (let n : None ≡ Some u.1.label = q in cc)
      past (u ∷ units) (suc i) q = let l = past units i q in omega (arith, l)

  module _ (label : List ℕ) (at : Some label ≡ option_map (λ (u : ℕ × Driver). u.1.label) (slice_get w.at.units index)) where
    abbrev pub news : Option (Option EndpointRecord)
    news = news_of held w.at label

    there : slice_get (labels_of t) index ≡ Some label
    there = slice_get-map (λ (u : ℕ × Driver). u.1.label) t.units index ∙
        (ap (λ (l : List (ℕ × Driver)). option_map (λ (u : ℕ × Driver). u.1.label) (slice_get l index)) (sym units_still) ∙ sym at)

    has : has_label w.at.units label ≡ true
    has = has_label_at w.at.units index label (sym at)

    -- the walk continues after the label's round
    goes_on : (next : TableRecord) (after : List (List Move)) → after ≡ rounds ++ (taking w.at label news).0 →
        TableStands next (taking w.at label news).1 → Walked held t before (index + 1) next after
    goes_on next after e st = record {
      at = (taking w.at label news).1;
      done = w.done ++ (taking w.at label news).0;
      rounds_are = e ∙ (ap (λ (z : List (List Move)). z ++ (taking w.at label news).0) w.rounds_are ∙
          append_assoc before w.done (taking w.at label news).0);
      followed = subst (λ (z : List (List ℕ)). Follows held z t (w.done ++ (taking w.at label news).0) None (taking w.at label news).1)
          (sym (take_at_get (labels_of t) index label there))
          (follows_on held (take index (labels_of t)) (label ∷ []) t w.at (taking w.at label news).1 w.done (taking w.at label news).0 None
          w.followed (one_label held w.at label));
      stands = st;
    }

    -- the walk stops: memory ran out at the label
    stops : (taking w.at label news).0 ≢ [] → Reaches held t before now rounds (Some NoRoom)
    stops some = (
      w.at,
      w.done,
      w.rounds_are,
      subst (λ (z : List (List ℕ)). Follows held z t w.done (Some NoRoom) w.at)
          (ap (λ (z : List (List ℕ)). take index (labels_of t) ++ z) (sym (drop_at_get (labels_of t) index label there)) ∙
          take-append-drop index (labels_of t))
          (subst (λ (z : List (List Move)). Follows held (take index (labels_of t) ++ label ∷ drop (index + 1) (labels_of t)) t z
          (Some NoRoom) w.at) (append-nil w.done)
          (follows_on held (take index (labels_of t)) (label ∷ drop (index + 1) (labels_of t)) t w.at w.at w.done [] (Some NoRoom)
          w.followed (inr (record { some = some; rounds_are = refl; fault_is = refl; table_is = refl })))),
      w.stands,
    )

    -- ---- the same, by what the code has
    module _ (r : Option (Option EndpointRecord)) (is : r ≡ news) where
      pub nothing_told : r ≡ None → Walked held t before (index + 1) now rounds
      nothing_told e = goes_on now rounds (sym (append-nil rounds) ∙
          ap (λ (n : Option (Option EndpointRecord)). rounds ++ (taking w.at label n).0) none)
          (subst (λ (n : Option (Option EndpointRecord)). TableStands now (taking w.at label n).1) none w.stands)
        where
          none : None ≡ news
          none = sym e ∙ is

      module _ (state : Option EndpointRecord) (e : r ≡ Some state) where
        some : Some state ≡ news
        some = sym e ∙ is

        by_answer : (out : Result (List Move) TableFault × DriverTable) → changing w.at label state ≡ out →
            as_round w.at out ≡ taking w.at label news
        by_answer out q = ap (as_round w.at) (sym q) ∙ ap (taking w.at label) some

        -- an old state is passed over
        pub old_passed : (next : TableRecord) (after : List (List Move)) → next ≡ now → after ≡ rounds →
            Err OldEndpoint ≡ (changing w.at label state).0 → Walked held t before (index + 1) next after
        old_passed next after v e a = by (changing w.at label state) refl a
          where
            by : (out : Result (List Move) TableFault × DriverTable) → changing w.at label state ≡ out → Err OldEndpoint ≡ out.0 →
                Walked held t before (index + 1) next after
            by (Ok moves, u) q a = absurd (let n : Err OldEndpoint ≡ Ok moves = a in cc)
            by (Err fault, u) q a =
                let p = by_answer (Err fault, u) q in
                goes_on next after (e ∙ (sym (append-nil rounds) ∙ ap (λ (p : List (List Move) × DriverTable). rounds ++ p.0) p))
                (subst (λ (p : List (List Move) × DriverTable). TableStands next p.1) p
                (subst (λ (x : TableRecord). TableStands x w.at) (sym v) w.stands))

        pub old_told : true ≡ is_old (newest w.at.states label) (endpoint_now w.at.states label) state →
            Walked held t before (index + 1) now rounds
        old_told old = old_passed now rounds refl refl
            (sym (ap (λ (p : Result (List Move) TableFault × DriverTable). p.0) (old_refused w.at label state has (sym old))))

        -- a state that is refused for another cause isn't old
        not_old : (fault : TableFault) → fault ≢ OldEndpoint → IsAnswer (changing w.at label state).0 (Err fault) →
            false ≡ is_old (newest w.at.states label) (endpoint_now w.at.states label) state
        not_old fault other a = by (is_old (newest w.at.states label) (endpoint_now w.at.states label) state) refl
          where
            no : (f : TableFault) → f ≢ OldEndpoint → IsAnswer {A = List Move} (Err OldEndpoint) (Err f) → ⊥
            no faults.NoRoom n (moves, q) = let k : Err OldEndpoint ≡ Ok moves = q in cc
            no faults.OldEndpoint n h = n refl
            no faults.Assigned n h = cc
            no faults.TwoIds n h = cc
            no faults.NoDevice n h = cc
            no faults.NotPending n h = cc

            by : (o : Bool) → is_old (newest w.at.states label) (endpoint_now w.at.states label) state ≡ o →
                false ≡ is_old (newest w.at.states label) (endpoint_now w.at.states label) state
            by false e = sym e
            by true e = absurd (no fault other (subst (λ (p : Result (List Move) TableFault × DriverTable). IsAnswer p.0 (Err fault))
                (old_refused w.at label state has e) a))

        pub state_taken : (moves : List Move) (next : TableRecord) (after : List (List Move)) →
            IsAnswer (changing w.at label state).0 (Ok moves) → TableStands next (changing w.at label state).1 →
            after ≡ rounds ++ moves ∷ []
            → Walked held t before (index + 1) next after
        state_taken moves next after a st f = by (changing w.at label state) refl a st
          where
            by : (out : Result (List Move) TableFault × DriverTable) → changing w.at label state ≡ out → IsAnswer out.0 (Ok moves) →
                TableStands next out.1 → Walked held t before (index + 1) next after
            by (Err fault, u) q a st = absurd (cc)
            by (Ok other, u) q a st =
                let same : moves ≡ other = (let n : Ok moves ≡ Ok other = a in cc) in
                let p = by_answer (Ok other, u) q in
                goes_on next after (f ∙ (ap (λ (m : List Move). rounds ++ m ∷ []) same ∙
                ap (λ (p : List (List Move) × DriverTable). rounds ++ p.0) p))
                (subst (λ (p : List (List Move) × DriverTable). TableStands next p.1) p st)

        -- ---- a state that isn't old
        module _ (new : false ≡ is_old (newest w.at.states label) (endpoint_now w.at.states label) state) where
          taken : (moves : List Move) × (u : DriverTable) × (changing w.at label state ≡ (Ok moves, u))
          taken = new_taken w.at label state has (sym new)

          -- memory ran out for the state
          pub wants_room : (next : TableRecord) (after : List (List Move)) (fault : TableFault) → next ≡ now → after ≡ rounds →
              fault ≡ NoRoom → Reaches held t before next after (Some fault)
          wants_room next after fault v e f = subst (λ (x : TableFault). Reaches held t before next after (Some x)) (sym f)
              (subst (λ (x : List (List Move)). Reaches held t before next x (Some NoRoom)) (sym e)
              (subst (λ (x : TableRecord). Reaches held t before x rounds (Some NoRoom)) (sym v) (stops round)))
            where
              round : (taking w.at label news).0 ≢ []
              round = subst (λ (p : List (List Move) × DriverTable). p.0 ≢ []) (by_answer (Ok taken.0, taken.1) taken.2)
                  (λ n. absurd (let k : taken.0 ∷ [] ≡ [] = n in cc))

          -- no other fault is possible
          only_room : (fault : TableFault) → IsAnswer (changing w.at label state).0 (Err fault) → fault ≡ NoRoom
          only_room fault a = by fault (subst (λ (p : Result (List Move) TableFault × DriverTable). IsAnswer p.0 (Err fault)) taken.2 a)
            where
              by : (f : TableFault) → IsAnswer {A = List Move} (Ok taken.0) (Err f) → f ≡ NoRoom
              by faults.NoRoom h = refl
              by faults.Assigned h = absurd (cc)
              by faults.OldEndpoint h = absurd (cc)
              by faults.TwoIds h = absurd (cc)
              by faults.NoDevice h = absurd (cc)
              by faults.NotPending h = absurd (cc)

        -- the table refused the state
        pub refused : (next : TableRecord) (after : List (List Move)) (fault : TableFault) → next ≡ now → after ≡ rounds →
            fault ≢ OldEndpoint → IsAnswer (changing w.at label state).0 (Err fault)
            → Reaches held t before next after (Some fault)
        refused next after fault v e other a = let new = not_old fault other a in
            wants_room new next after fault v e (only_room new fault a)
