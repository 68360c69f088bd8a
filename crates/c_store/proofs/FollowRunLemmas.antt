-- A follow is a run of calls with the map's states, and its moves go to no older instance than the map has; so does the move of a request
-- after it.
use Rattle.std.proofs.Common.{◌≡◌, ◌==◌, ℕ, ◌+◌, ◌≤◌, ◌<◌, Bool, true, false, cond, List, [], ◌∷◌, ◌++◌, map, filter, Option, Some, None}
use Rattle.std.proofs.Common.{Result, Ok, Err, refl, ap, sym, ◌∙◌, subst, inl, inr, ◌⊎◌, arith, append-nil}
use Rattle.std.specs.Prelude.{MatchOption}
use Rattle.std.specs.List.{find, filter_map, cons_option, AllByRecursion}
use Rattle.std.specs.Option.{option_map, option_map_or, option_or}
use Rattle.std.proofs.lemmas.Bool.{or_left, or_right}
use Rattle.std.proofs.lemmas.Grind.{flat_map-append}
use Rattle.std.proofs.lemmas.List.Folds.{find-append}
use Rattle.ds_names.specs.Endpoint.{EndpointRecord}
use Rattle.ds_names.specs.Key.{label_key}
use Rattle.ds_names.specs.Name.{is_same_name}
use Rattle.ds_entry.specs.Change.{ChangeRecord}
use Rattle.ds_entry.specs.Left.{endpoint_in}
use Rattle.ds_entry.specs.declared.item.Item.{Item}
use Rattle.ds_entry.proofs.Members.{In}
use Rattle.ds_held.proofs.MergeLemmas.{no_some}
use Rattle.ds_machine.specs.Parts.{held_at}
use Rattle.history.proofs.RunLemmas.{path_join}
use Rattle.driver_tables.specs.declared.device.Class.{Class}
use Rattle.driver_tables.specs.declared.device.Class.TheVariants.{Block, Character, Network}
use Rattle.driver_tables.specs.declared.fault.TableFault.{TableFault}
use Rattle.driver_tables.specs.declared.fault.TableFault.TheVariants.{NoRoom}
use Rattle.driver_tables.specs.declared.moves.Move.{Move}
use Rattle.driver_tables.specs.declared.moves.Move.TheVariants.{Start, Send, Answer, Held}
use Rattle.driver_tables.specs.Changed.{network_start, start, settled, settled_of, settle, all_moves, notes}
use Rattle.driver_tables.specs.Doing.{does}
use Rattle.driver_tables.specs.Driver.{Driver, driver_of, has_label}
use Rattle.driver_tables.specs.DriverTable.{DriverTable, Request, is_for, is_pending, is_above, pending}
use Rattle.driver_tables.specs.Label.{endpoint_now, newest}
use Rattle.driver_tables.specs.Reached.{IsTableReached}
use Rattle.driver_tables.specs.Run.{Entry, TableStep, TableRun, moves_in, all_moves_in, one_move}
use Rattle.driver_tables.specs.Run as calls
use Rattle.driver_tables.specs.Submit.{submitted, move_of, with_request}
use Rattle.driver_tables.proofs.LawLemmas.{find_itself}
use Rattle.driver_tables.proofs.RunLemmas.{submitted_so, reached_step, reached_run}
use Rattle.driver_tables.proofs.SubmitLemmas.{other_ids}
use Rattle.driver_tables.proofs.TestLemmas.{same_name, name_itself, equal_itself}
use Rattle.rs_to_store.specs.Following.{labels_of, news_of, taking, Follows}
use Rattle.rs_to_store.specs.Submitting.{all_in, CallsNext, FollowsAndTakes}
use Rattle.rs_to_store.proofs.FollowLemmas.{follows_keep_units, follows_end_for_room}
use Rattle.c_store.specs.NoOlder.{IsSince, IsNoOlder, GoesToNoneOlder}
use Rattle.c_store.specs.TableRuns.{IsOfMap, HasRequest}
use Rattle.c_store.proofs.NewsLemmas.{in_some, Knows, KnowsChange, Passes, Notes, passes_or_notes, past_knows, knows_past}

-- ---- moves that go to no older instance
abbrev pub label_in : List (ℕ × Driver) → ℕ → Option (List ℕ)
label_in units unit = option_map (λ (d : Driver). d.label) (driver_of units unit)

abbrev pub Goes : List Item → DriverTable → Move → Type 0
Goes held t m = GoesToNoneOlder held (label_in t.units) t.requests m

pub all_append : {X : Type 0} (P : X → Type 0) (l k : List X) → AllByRecursion P l → AllByRecursion P k → AllByRecursion P (l ++ k)
all_append P [] k h g = g
all_append P (m ∷ l) k h g = (h.0, all_append P l k h.1 g)

-- they still do in a table with more requests
pub goes_more : (held : List Item) (t u : DriverTable) (more : List Request) → u.units ≡ t.units → u.requests ≡ t.requests ++ more →
    (moves : List Move) → AllByRecursion (Goes held t) moves → AllByRecursion (Goes held u) moves
goes_more held t u more units requests [] g = tt
goes_more held t u more units requests (m ∷ moves) g = (
  subst (λ (l : List (ℕ × Driver)). GoesToNoneOlder held (label_in l) u.requests m) (sym units)
      (subst (λ (l : List Request). GoesToNoneOlder held (label_in t.units) l m) (sym requests) (one m g.0)),
  goes_more held t u more units requests moves g.1,
)
  where
    one : (m : Move) → Goes held t m → GoesToNoneOlder held (label_in t.units) (t.requests ++ more) m
    one (Start unit e) h = h
    one (Send id e) h =
        (h.0, find-append (is_for id) t.requests more ∙ ap (λ (o : Option Request). option_or o (find (is_for id) more)) h.1, h.2)
    one (Answer id ending) h = tt
    one (Held id) h = tt

-- the moves of a state that the map has of a label
module _ (held : List Item) (t : DriverTable) (label : List ℕ) (state : Option EndpointRecord)
    (since : (e : EndpointRecord) → Some e ≡ state → IsNoOlder held label e) where
  starts_go : (units : List (ℕ × Driver)) → AllByRecursion (λ (x : ℕ × Driver). driver_of t.units x.0 ≡ Some x.1) units →
      AllByRecursion (Goes held t) (filter_map (start label state) units)
  starts_go [] f = tt
  starts_go (x ∷ units) f = by (is_same_name label x.1.label) refl x.1.class state refl (starts_go units f.1)
    where
      rest_of : List Move
      rest_of = filter_map (start label state) units

      by : (b : Bool) → is_same_name label x.1.label ≡ b → (class : Class) (s : Option EndpointRecord) → s ≡ state →
          AllByRecursion (Goes held t) rest_of →
          AllByRecursion (Goes held t) (cons_option (cond b (network_start class x.0 s) None) rest_of)
      by false q class s n rest = rest
      by true q Block s n rest = rest
      by true q Character s n rest = rest
      by true q Network None n rest = rest
      by true q Network (Some e) n rest =
          ((label, ap (option_map (λ (d : Driver). d.label)) f.0 ∙ ap Some (sym (same_name label x.1.label q)), since e n), rest)

  settles_go : (test : Request → Bool) (requests : List Request) →
      AllByRecursion (λ (r : Request). find (is_for r.id) t.requests ≡ Some r) requests →
      AllByRecursion (Goes held t) (filter_map (settle t.units label state) (filter test requests))
  settles_go test [] f = tt
  settles_go test (r ∷ requests) f = by_pending (test r) (settles_go test requests f.1)
    where
      rest_of : List Move
      rest_of = filter_map (settle t.units label state) (filter test requests)

      by_class : (d : Driver) → driver_of t.units r.unit ≡ Some d → is_same_name label d.label ≡ true →
          (class : Class) (s : Option EndpointRecord) → s ≡ state →
          AllByRecursion (Goes held t) rest_of → AllByRecursion (Goes held t) (cons_option (settled class r.id s) rest_of)
      by_class d found q Block None n rest = rest
      by_class d found q Block (Some e) n rest =
          ((r, f.0, (label, ap (option_map (λ (d : Driver). d.label)) found ∙ ap Some (sym (same_name label d.label q)), since e n)), rest)
      by_class d found q Character s n rest = (tt, rest)
      by_class d found q Network s n rest = (tt, rest)

      by_test : (b : Bool) (d : Driver) → driver_of t.units r.unit ≡ Some d → is_same_name label d.label ≡ b →
          AllByRecursion (Goes held t) rest_of →
          AllByRecursion (Goes held t) (cons_option (cond b (settled d.class r.id state) None) rest_of)
      by_test false d found q rest = rest
      by_test true d found q rest = by_class d found q d.class state refl rest

      by : (d : Option Driver) → driver_of t.units r.unit ≡ d → AllByRecursion (Goes held t) rest_of →
          AllByRecursion (Goes held t) (cons_option (option_map_or (settled_of label state r.id) d None) rest_of)
      by None found rest = rest
      by (Some d) found rest = by_test (is_same_name label d.label) d found refl rest

      by_pending : (b : Bool) → AllByRecursion (Goes held t) rest_of →
          AllByRecursion (Goes held t) (filter_map (settle t.units label state) (cond b (r ∷ filter test requests) (filter test requests)))
      by_pending false rest = rest
      by_pending true rest = by (driver_of t.units r.unit) refl rest

  state_goes : IsTableReached t → (same : Bool) → AllByRecursion (Goes held t) (cond same [] (all_moves t label state))
  state_goes r true = tt
  state_goes r false = all_append (Goes held t) (filter_map (start label state) t.units)
      (filter_map (settle t.units label state) (pending t)) (starts_go t.units r.units)
      (settles_go (is_pending t.answers) t.requests (find_itself t.requests r.distinct))

round_goes : (held : List Item) (t : DriverTable) (l : List ℕ) → IsTableReached t → (n : Notes held t l) →
    AllByRecursion (Goes held t) n.moves
round_goes held t l r n = subst (AllByRecursion (Goes held t)) (sym n.moves_are)
    (state_goes held t l (endpoint_in n.change.body) since r n.same)
  where
    since : (e : EndpointRecord) → Some e ≡ endpoint_in n.change.body → IsNoOlder held l e
    since e is c q =
        subst (λ (d : ChangeRecord). IsSince d e) (in_some (sym n.there ∙ q))
        (subst (λ (o : Option EndpointRecord). MatchOption o (n.change.version.epoch < e.generation)
        (λ (f : EndpointRecord). f.generation ≤ e.generation)) is (omega arith))

-- ---- the run of a follow
pub record FollowRun (held : List Item) (t : DriverTable) (rounds : List (List Move)) (u : DriverTable) : Type 0 where
  pub entries : List Entry
  pub run : TableRun t entries u
  pub moves : all_in rounds ≡ all_moves_in entries
  pub of_map : AllByRecursion (IsOfMap held) entries
  pub goes : AllByRecursion (Goes held u) (all_in rounds)

abbrev pub AllHave : DriverTable → List (List ℕ) → Type 0
AllHave t labels = AllByRecursion (λ (l : List ℕ). has_label t.units l ≡ true) labels

-- the rest of a follow, from a table on
abbrev pub RunsOn : List Item → List (List ℕ) → List (List Move) → Option TableFault → DriverTable → DriverTable → Type 0
RunsOn held labels later fault u y = IsTableReached y → AllHave y labels → Follows held labels y later fault u → FollowRun held y later u

pub follow_run : (held : List Item) (labels : List (List ℕ)) (t : DriverTable) (rounds : List (List Move)) (fault : Option TableFault)
    (u : DriverTable) → IsTableReached t → AllHave t labels → Follows held labels t rounds fault u
    → FollowRun held t rounds u
follow_run held [] t rounds fault u r has f =
    record {
      entries = [];
      run = sym f.2;
      moves = ap all_in f.0;
      of_map = tt;
      goes =
          subst (λ (z : List (List Move)). AllByRecursion (Goes held u) (all_in z)) (sym f.0) tt;
    }
follow_run held (l ∷ labels) t rounds fault u r has (inr ends) = record {
  entries = [];
  run = sym ends.table_is;
  moves = ap all_in ends.rounds_are;
  of_map = tt;
  goes = subst (λ (z : List (List Move)). AllByRecursion (Goes held u) (all_in z)) (sym ends.rounds_are) tt;
}
follow_run held (l ∷ labels) t rounds fault u r has (inl (later, e, rest)) = elim (passes_or_notes held t l has.0) [
  | inl p ↦ passed (λ y. follow_run held labels y later fault u) p
  | inr n ↦ noted (λ y. follow_run held labels y later fault u) n
]
  where
    passed : ((y : DriverTable) → RunsOn held labels later fault u y) → Passes held t l → FollowRun held t rounds u
    passed again p =
        subst (λ (z : List (List Move)). FollowRun held t z u) (sym (e ∙ ap (λ (z : List (List Move) × DriverTable). z.0 ++ later) p.past))
        (again t r has.1 (subst (λ (z : List (List Move) × DriverTable). Follows held labels z.1 later fault u) p.past rest))

    noted : ((y : DriverTable) → RunsOn held labels later fault u y) → Notes held t l → FollowRun held t rounds u
    noted again n =
        subst (λ (z : List (List Move)). FollowRun held t z u) (sym (e ∙ ap (λ (z : List (List Move) × DriverTable). z.0 ++ later) n.past))
        (record {
          entries = record { call = calls.Changed l state; answer = Ok n.moves } ∷ k.entries;
          run = (y, step, k.run);
          moves = ap (λ (z : List Move). n.moves ++ z) k.moves;
          of_map = ((l, n.change, n.there, refl), k.of_map);
          goes = all_append (Goes held u) n.moves (all_in later)
              (goes_more held t u [] kept.0 (kept.1 ∙ sym (append-nil t.requests)) n.moves (round_goes held t l r n)) k.goes;
        })
      where
        state : Option EndpointRecord
        state = endpoint_in n.change.body

        y : DriverTable
        y = does (notes t l state) n.moves

        step : TableStep t (calls.Changed l state) (Ok n.moves) y
        step =
            record {
              answer_is = sym (ap (λ (p : Result (List Move) TableFault × DriverTable). p.0) n.answer);
              after =
                  sym (ap (λ (p : Result (List Move) TableFault × DriverTable). p.1) n.answer);
              unchanged = tt;
            }

        behind : Follows held labels y later fault u
        behind = subst (λ (z : List (List Move) × DriverTable). Follows held labels z.1 later fault u) n.past rest

        k : FollowRun held y later u
        k = again y (reached_step t y (calls.Changed l state) (Ok n.moves) step r) has.1 behind

        kept : (u.units ≡ t.units) × (u.requests ≡ t.requests)
        kept = follows_keep_units held labels y u later fault behind

-- ---- what the table knows after a follow
have_past : (held : List Item) (t : DriverTable) (l : List ℕ) (labels : List (List ℕ)) → AllHave t labels →
    AllHave (taking t l (news_of held t l)).1 labels
have_past held t l labels has =
    subst (λ (units : List (ℕ × Driver)). AllByRecursion (λ (k : List ℕ). has_label units k ≡ true) labels)
    (sym (follows_keep_units held (l ∷ []) t past.1 past.0 None (inl ([], sym (append-nil past.0), (refl, refl, refl)))).0) has
  where
    past : List (List Move) × DriverTable
    past = taking t l (news_of held t l)

module _ (held : List Item) (label : List ℕ) (c : ChangeRecord) (there : held_at held (label_key label) ≡ Some c) where
  still_knows : (labels : List (List ℕ)) (t : DriverTable) (rounds : List (List Move)) (fault : Option TableFault) (u : DriverTable) →
      AllHave t labels → Follows held labels t rounds fault u → KnowsChange t label c → KnowsChange u label c
  still_knows [] t rounds fault u has f k = subst (λ (z : DriverTable). KnowsChange z label c) (sym f.2) k
  still_knows (l ∷ labels) t rounds fault u has (inl (later, e, rest)) k =
      still_knows labels (taking t l (news_of held t l)).1 later fault u (have_past held t l labels has.1) rest
      (knows_past held t l has.0 label c there k)
  still_knows (l ∷ labels) t rounds fault u has (inr ends) k = subst (λ (z : DriverTable). KnowsChange z label c) (sym ends.table_is) k

  -- each label that was followed
  pub follow_knows : (labels : List (List ℕ)) (t : DriverTable) (rounds : List (List Move)) (u : DriverTable) → In label labels →
      AllHave t labels → Follows held labels t rounds None u → KnowsChange u label c
  follow_knows [] t rounds u i has f = absurd i
  follow_knows (l ∷ labels) t rounds u (inl q) has (inl (later, e, rest)) =
      still_knows labels (taking t l (news_of held t l)).1 later None u (have_past held t l labels has.1) rest
      (subst (λ (z : List ℕ). KnowsChange (taking t l (news_of held t l)).1 z c) (sym q)
      (past_knows held t l has.0 c (ap (λ (z : List ℕ). held_at held (label_key z)) (sym q) ∙ there)))
  follow_knows (l ∷ labels) t rounds u (inr i) has (inl (later, e, rest)) =
      follow_knows labels (taking t l (news_of held t l)).1 later u i (have_past held t l labels has.1) rest
  follow_knows (l ∷ labels) t rounds u i has (inr ends) = absurd (let n : None ≡ Some NoRoom = ends.fault_is in cc)

-- ---- the labels of a table
pub labels_have : (units : List (ℕ × Driver)) →
    AllByRecursion (λ (l : List ℕ). has_label units l ≡ true) (map (λ (u : ℕ × Driver). u.1.label) units)
labels_have [] = tt
labels_have (u ∷ units) = (
  or_left (is_same_name u.1.label u.1.label) (has_label units u.1.label) (name_itself u.1.label),
  wider
      (map (λ (u : ℕ × Driver). u.1.label) units) (labels_have units),
)
  where
    wider : (labels : List (List ℕ)) → AllByRecursion (λ (l : List ℕ). has_label units l ≡ true) labels →
        AllByRecursion (λ (l : List ℕ). has_label (u ∷ units) l ≡ true) labels
    wider [] h = tt
    wider (l ∷ labels) h = (or_right (is_same_name l u.1.label) (has_label units l) h.0, wider labels h.1)

-- the label of a unit's driver is one of them
driver_listed : (units : List (ℕ × Driver)) (unit : ℕ) (d : Driver) → driver_of units unit ≡ Some d →
    In d.label (map (λ (u : ℕ × Driver). u.1.label) units)
driver_listed [] unit d h = no_some d h
driver_listed (u ∷ units) unit d h = by (unit == u.0) h (driver_listed units unit d)
  where
    by : (b : Bool) → cond b (Some u.1) (driver_of units unit) ≡ Some d →
        (driver_of units unit ≡ Some d → In d.label (map (λ (u : ℕ × Driver). u.1.label) units)) →
        In d.label (u.1.label ∷ map (λ (u : ℕ × Driver). u.1.label) units)
    by true k rest = inl (ap (λ (z : Driver). z.label) (sym (in_some k)))
    by false k rest = inr (rest k)

-- ---- the move of a request
-- the table knows each label of its units, as the map has it
abbrev pub KnowsAll : List Item → DriverTable → Type 0
KnowsAll held t = (label : List ℕ) (c : ChangeRecord) → In label (labels_of t) → held_at held (label_key label) ≡ Some c →
    KnowsChange t label c

pub record OwnRun (held : List Item) (t : DriverTable) (own : Result (List Move) TableFault) (u : DriverTable) : Type 0 where
  pub units : u.units ≡ t.units
  pub more : List Request
  pub requests : u.requests ≡ t.requests ++ more
  pub goes : AllByRecursion (Goes held u) (moves_in own)

-- what none of the first elements has is found after them
find_past : {X : Type 0} (p : X → Bool) (xs ys : List X) → AllByRecursion (λ (x : X). p x ≡ false) xs → find p (xs ++ ys) ≡ find p ys
find_past p [] ys h = refl
find_past p (x ∷ xs) ys h = ap (λ (b : Bool). cond b (Some x) (find p (xs ++ ys))) h.0 ∙ find_past p xs ys h.1

module _ (held : List Item) (t : DriverTable) (reached : IsTableReached t) (knows : KnowsAll held t) (id unit : ℕ) where
  abbrev r : Request
  r = record { id = id; unit = unit }

  -- an endpoint that a label has now is since the map's change
  now_since : (label : List ℕ) (e : EndpointRecord) → In label (labels_of t) → endpoint_now t.states label ≡ Some e → IsNoOlder held label e
  now_since label e i now c q = by (endpoint_in c.body) (knows label c i q)
    where
      greatest : (n h : ℕ) → newest t.states label ≡ Some h → n ≤ h → n ≤ e.generation
      greatest n h k l = let s : h ≡ e.generation = in_some (sym k ∙ reached.current label e now) in omega (arith, s, l)

      by : (o : Option EndpointRecord) → Knows t label c.version.epoch o →
          MatchOption o (c.version.epoch < e.generation) (λ (f : EndpointRecord). f.generation ≤ e.generation)
      by (Some f) (h, k, l) = greatest f.generation h k l
      by None (inl n) = no_some e (sym n ∙ now)
      by None (inr (h, k, l)) = let g = greatest (c.version.epoch + 1) h k l in omega (arith, g)

  found_last : is_above t.requests id ≡ true → find (is_for id) (t.requests ++ r ∷ []) ≡ Some r
  found_last above = find_past (is_for id) t.requests (r ∷ []) (other_ids t.requests id above) ∙
      ap (λ (b : Bool). cond b (Some r) None) (equal_itself id)

  own_goes : (d : Driver) → driver_of t.units unit ≡ Some d → is_above t.requests id ≡ true → (class : Class) (s : Option EndpointRecord) →
      endpoint_now t.states d.label ≡ s →
      GoesToNoneOlder held (label_in t.units) (t.requests ++ r ∷ []) (submitted class id s)
  own_goes d found above class (Some e) now = (
    r,
    found_last above,
    (
      d.label,
      ap (option_map (λ (d : Driver). d.label)) found,
      now_since d.label e
          (driver_listed t.units unit d found) now,
    ),
  )
  own_goes d found above Block None now = tt
  own_goes d found above Character None now = tt
  own_goes d found above Network None now = tt

  pub own_run : (own : Result (List Move) TableFault) (u : DriverTable) → TableStep t (calls.Submit id unit) own u → OwnRun held t own u
  own_run (Err fault) u s = record {
    units = ap (λ (z : DriverTable). z.units) s.unchanged;
    more = [];
    requests = ap (λ (z : DriverTable). z.requests) s.unchanged ∙ sym (append-nil t.requests);
    goes = tt;
  }
  own_run (Ok moves) u s = by (is_above t.requests id) refl (driver_of t.units unit) refl (sym s.answer_is) s.after
    where
      by : (above : Bool) → is_above t.requests id ≡ above → (d : Option Driver) → driver_of t.units unit ≡ d →
          one_move (submitted_so t r above d).0 ≡ Ok moves → u ≡ (submitted_so t r above d).1 → OwnRun held t (Ok moves) u
      by false a d found e after = cc
      by true a None found e after = cc
      by true a (Some d) found e after =
          let this : move_of t r d ∷ [] ≡ moves = cc in
          subst (OwnRun held t (Ok moves)) (sym after)
          (record {
            units = refl;
            more = r ∷ [];
            requests = refl;
            goes =
                subst (AllByRecursion (Goes held (does (with_request t r) (move_of t r d ∷ [])))) this
                (own_goes d found a d.class (endpoint_now t.states d.label) refl, tt);
          })

-- ---- a follow, and the request after it
pub record SubmitRun (held : List Item) (id unit : ℕ) (t : DriverTable) (rounds : List (List Move)) (stop : Option TableFault)
    (own : Result (List Move) TableFault) (u : DriverTable) : Type 0 where
  pub states : List Entry
  pub own_part : List Entry
  pub run : TableRun t (states ++ own_part) u
  pub moves : all_in rounds ++ moves_in own ≡ all_moves_in (states ++ own_part)
  pub of_map : AllByRecursion (IsOfMap held) states
  pub request : HasRequest stop id unit own own_part
  pub goes : AllByRecursion (Goes held u) (all_in rounds ++ moves_in own)

module _ (held : List Item) (id unit : ℕ) (t : DriverTable) (rounds : List (List Move)) (own : Result (List Move) TableFault)
    (u : DriverTable) (reached : IsTableReached t) where
  submit_by : (mid : DriverTable) (stop : Option TableFault) → Follows held (labels_of t) t rounds stop mid →
      CallsNext stop (calls.Submit id unit) mid own u → SubmitRun held id unit t rounds stop own u
  submit_by mid (Some stop) follows (told, same) =
      let k = follow_run held (labels_of t) t rounds (Some stop) mid reached (labels_have t.units) follows in
      let none : moves_in own ≡ [] = ap moves_in told in
      record {
        states = k.entries;
        own_part = [];
        run = subst (TableRun t (k.entries ++ [])) (sym same)
            (subst (λ (l : List Entry). TableRun t l mid) (sym (append-nil k.entries)) k.run);
        moves = ap (λ (l : List Move). all_in rounds ++ l) none ∙
            (append-nil (all_in rounds) ∙ (k.moves ∙ ap all_moves_in (sym (append-nil k.entries))));
        of_map = k.of_map;
        request = (refl, told ∙ ap Err (follows_end_for_room held (labels_of t) t mid rounds stop follows).0);
        goes = subst (λ (l : List Move). AllByRecursion (Goes held u) (all_in rounds ++ l)) (sym none)
            (subst (AllByRecursion (Goes held u)) (sym (append-nil (all_in rounds)))
            (subst (λ (z : DriverTable). AllByRecursion (Goes held z) (all_in rounds)) (sym same) k.goes));
      }
  submit_by mid None follows step =
      let k = follow_run held (labels_of t) t rounds None mid reached (labels_have t.units) follows in
      let o = own_run held mid (reached_run t mid k.entries k.run reached) knows id unit own u step in
      record {
        states = k.entries;
        own_part = last;
        run = path_join (λ (t : DriverTable) (entry : Entry) (u : DriverTable). TableStep t entry.call entry.answer u) t mid u k.entries
            last k.run (u, step, refl);
        moves = ap (λ (l : List Move). l ++ moves_in own) k.moves
            ∙ (ap (λ (l : List Move). all_moves_in k.entries ++ l) (sym (append-nil (moves_in own))) ∙
            sym (flat_map-append (λ (e : Entry). moves_in e.answer) k.entries last));
        of_map = k.of_map;
        request = refl;
        goes = all_append (Goes held u) (all_in rounds) (moves_in own)
            (goes_more held mid u o.more o.units o.requests (all_in rounds) k.goes) o.goes;
      }
    where
      last : List Entry
      last = record { call = calls.Submit id unit; answer = own } ∷ []

      same_labels : labels_of mid ≡ labels_of t
      same_labels = ap (λ (units : List (ℕ × Driver)). map (λ (u : ℕ × Driver). u.1.label) units)
          (follows_keep_units held (labels_of t) t mid rounds None follows).0

      knows : KnowsAll held mid
      knows label c i q = follow_knows held label c q (labels_of t) t rounds mid (subst (In label) same_labels i) (labels_have t.units)
          follows

  pub submit_run : (f : FollowsAndTakes held id unit t rounds own u) → SubmitRun held id unit t rounds f.stop own u
  submit_run f = submit_by f.mid f.stop f.follows f.takes
