-- The laws over runs.
use Rattle.std.proofs.Common.{◌≡◌, ℕ, ◌≤◌, ◌==◌, nat_lt, ◌||◌, Bool, true, false, cond, List, [], ◌∷◌, ◌++◌, length, filter, Option, Some}
use Rattle.std.proofs.Common.{None, is_some, Result, Ok, Err, refl, sym, ap, ◌∙◌, subst, arith, inl, inr}
use Rattle.std.specs.Option.{option_map_or}
use Rattle.std.specs.List.{find, list_any, filter_map, cons_option, AllByRecursion, IsDistinct}
use Rattle.std.proofs.lemmas.Bool.Decides.{nat_tests}
use Rattle.std.proofs.lemmas.List.Folds.{list_any-append}
use Rattle.ds_names.specs.Endpoint.{EndpointRecord}
use Rattle.driver_tables.specs.declared.moves.Ending.{Ending}
use Rattle.driver_tables.specs.declared.moves.Ending.TheVariants.{Done, Fault}
use Rattle.driver_tables.specs.declared.moves.Move.{Move}
use Rattle.driver_tables.specs.declared.moves.Move.TheVariants.{Answer}
use Rattle.driver_tables.specs.declared.fault.TableFault.{TableFault}
use Rattle.driver_tables.specs.declared.device.Class.{Class}
use Rattle.driver_tables.specs.declared.device.Class.TheVariants.{Block, Character, Network}
use Rattle.driver_tables.specs.Driver.{Driver, driver_of, has_label}
use Rattle.driver_tables.specs.Label.{LabelState, endpoint_now, newest, newer, is_same_state, is_old}
use Rattle.driver_tables.specs.DriverTable.{DriverTable, Request, empty_table, values_of, last_sent, pending, is_pending, is_for}
use Rattle.driver_tables.specs.DriverTable.{is_requested, is_above}
use Rattle.driver_tables.specs.Doing.{does}
use Rattle.driver_tables.specs.Changed.{network_start, start, settled, settled_of, settle, all_moves, notes}
use Rattle.driver_tables.specs.Submit.{submitted, move_of, with_request}
use Rattle.driver_tables.specs.Reached.{IsAnsweredBy, IsRequestServed, IsTableReached}
use Rattle.driver_tables.specs.Run.{Call, TableStep, table_outcome, no_moves, one_move}
use Rattle.driver_tables.specs.Run.{Assign, Changed, Submit, Reply}
use Rattle.driver_tables.specs.Laws.{ListsTell, AnswersOnce, is_done, DoneByItsDriver, GoesToLiving, NoneToOlder, NewestRises}
use Rattle.driver_tables.specs.Laws.{IsRequestKept, BlockRequestsAreKept}
use Rattle.driver_tables.proofs.TestLemmas.{equal_number, equal_itself}
use Rattle.driver_tables.proofs.UnitLemmas.{now_after, newest_after}
use Rattle.driver_tables.proofs.SubmitLemmas.{other_ids}
use Rattle.driver_tables.proofs.ChangeLemmas.{same_state}
use Rattle.driver_tables.proofs.RunLemmas.{assigned_so, changed_so, submitted_so, replied_so, reached_outcome, reached, tells_run}
use Rattle.ds_names.specs.Name.{is_same_name}

pub lists_tell : ListsTell
lists_tell entries t run = tells_run empty_table t entries run

-- ---- answers
few : (class : Class) (l : List Ending) → IsAnsweredBy class l → length l ≤ 1
few class [] h = omega arith
few class (Done ∷ []) h = omega arith
few Block (Fault ∷ []) h = absurd h
few Character (Fault ∷ []) h = omega arith
few Network (Fault ∷ []) h = omega arith
few Block (Done ∷ b ∷ l) h = absurd h
few Character (Done ∷ b ∷ l) h = absurd h
few Network (Done ∷ b ∷ l) h = absurd h
few Block (Fault ∷ b ∷ l) h = absurd h
few Character (Fault ∷ b ∷ l) h = absurd h
few Network (Fault ∷ b ∷ l) h = absurd h

once_asked : (t : DriverTable) (requests : List Request) (id : ℕ) → AllByRecursion (IsRequestServed t) requests →
    is_requested requests id ≡ true → length (values_of id t.answers) ≤ 1
once_asked t [] id h e = cc
once_asked t (r ∷ requests) id h e = by (r.id == id) refl e (once_asked t requests id h.1)
  where
    by : (b : Bool) → r.id == id ≡ b → b || is_requested requests id ≡ true →
        (is_requested requests id ≡ true → length (values_of id t.answers) ≤ 1) → length (values_of id t.answers) ≤ 1
    by true q e rest = subst (λ (n : ℕ). length (values_of n t.answers) ≤ 1) (equal_number r.id id q)
        (few h.0.driver.class (values_of r.id t.answers) h.0.answered)
    by false q e rest = rest e

pub answers_once : AnswersOnce
answers_once entries t run id = by (is_requested t.requests id) refl
  where
    h : IsTableReached t
    h = reached t entries run

    by : (b : Bool) → is_requested t.requests id ≡ b → length (values_of id t.answers) ≤ 1
    by true e = once_asked t t.requests id h.served e
    by false e = subst (λ (l : List Ending). length l ≤ 1) (sym (h.unasked id e).1) (omega arith)

-- ---- Done
none_started : (id : ℕ) (label : List ℕ) (state : Option EndpointRecord) (units : List (ℕ × Driver)) →
    list_any (is_done id) (filter_map (start label state) units) ≡ false
none_started id label state [] = refl
none_started id label state (u ∷ units) = by (is_same_name label u.1.label) u.1.class state (none_started id label state units)
  where
    rest_of : List Move
    rest_of = filter_map (start label state) units

    by : (b : Bool) (class : Class) (s : Option EndpointRecord) → list_any (is_done id) rest_of ≡ false →
        list_any (is_done id) (cons_option (cond b (network_start class u.0 s) None) rest_of) ≡ false
    by false class s rest = rest
    by true Block s rest = rest
    by true Character s rest = rest
    by true Network None rest = rest
    by true Network (Some e) rest = rest

none_settled : (id : ℕ) (units : List (ℕ × Driver)) (label : List ℕ) (state : Option EndpointRecord) (requests : List Request) →
    list_any (is_done id) (filter_map (settle units label state) requests) ≡ false
none_settled id units label state [] = refl
none_settled id units label state (r ∷ requests) = by (driver_of units r.unit) (none_settled id units label state requests)
  where
    rest_of : List Move
    rest_of = filter_map (settle units label state) requests

    by_class : (class : Class) (s : Option EndpointRecord) → list_any (is_done id) rest_of ≡ false →
        list_any (is_done id) (cons_option (settled class r.id s) rest_of) ≡ false
    by_class Block None rest = rest
    by_class Block (Some e) rest = rest
    by_class Character s rest = rest
    by_class Network s rest = rest

    by_test : (b : Bool) (d : Driver) → list_any (is_done id) rest_of ≡ false →
        list_any (is_done id) (cons_option (cond b (settled d.class r.id state) None) rest_of) ≡ false
    by_test false d rest = rest
    by_test true d rest = by_class d.class state rest

    by : (d : Option Driver) → list_any (is_done id) rest_of ≡ false →
        list_any (is_done id) (cons_option (option_map_or (settled_of label state r.id) d None) rest_of) ≡ false
    by None rest = rest
    by (Some d) rest = by_test (is_same_name label d.label) d rest

none_moved : (id : ℕ) (t : DriverTable) (label : List ℕ) (state : Option EndpointRecord) (same : Bool) →
    list_any (is_done id) (cond same [] (all_moves t label state)) ≡ false
none_moved id t label state true = refl
none_moved id t label state false =
    list_any-append (is_done id) (filter_map (start label state) t.units) (filter_map (settle t.units label state) (pending t))
    ∙ (ap (λ (b : Bool). b || list_any (is_done id) (filter_map (settle t.units label state) (pending t)))
    (none_started id label state t.units) ∙ none_settled id t.units label state (pending t))

abbrev IsItsDriver : DriverTable → Call → ℕ → Type 0
IsItsDriver t call id = (endpoint : EndpointRecord) × (call ≡ Reply endpoint id) × (last_sent t.sends id ≡ Some endpoint)

done_so : (t : DriverTable) (call : Call) (moves : List Move) (id : ℕ) → (table_outcome t call).0 ≡ Ok moves →
    list_any (is_done id) moves ≡ true → IsItsDriver t call id
done_so t (Assign unit driver) moves id e h = by (is_some (driver_of t.units unit)) e
  where
    by : (b : Bool) → no_moves (assigned_so t unit driver b).0 ≡ Ok moves → IsItsDriver t (Assign unit driver) id
    by true e = cc
    by false e = let none : [] ≡ moves = cc in let k : false ≡ true = ap (list_any (is_done id)) none ∙ h in absurd (cc)
done_so t (Changed label state) moves id e h =
    by (has_label t.units label) (is_old (newest t.states label) (endpoint_now t.states label) state)
    (is_same_state (endpoint_now t.states label) state) e
  where
    by : (has old same : Bool) → (changed_so t label state has old same).0 ≡ Ok moves → IsItsDriver t (Changed label state) id
    by false old same e = let none : [] ≡ moves = cc in let k : false ≡ true = ap (list_any (is_done id)) none ∙ h in absurd (cc)
    by true true same e = cc
    by true false same e = let all : cond same [] (all_moves t label state) ≡ moves = cc in let k : false ≡ true =
        sym (none_moved id t label state same) ∙ (ap (list_any (is_done id)) all ∙ h) in absurd (cc)
done_so t (Submit i unit) moves id e h = by (is_above t.requests i) (driver_of t.units unit) e
  where
    r : Request
    r = record { id = i; unit = unit }

    not_done : (class : Class) (s : Option EndpointRecord) → list_any (is_done id) (submitted class i s ∷ []) ≡ false
    not_done class (Some x) = refl
    not_done Block None = refl
    not_done Character None = refl
    not_done Network None = refl

    by : (above : Bool) (d : Option Driver) → one_move (submitted_so t r above d).0 ≡ Ok moves → IsItsDriver t (Submit i unit) id
    by false d e = cc
    by true None e = cc
    by true (Some d) e = let one : move_of t r d ∷ [] ≡ moves = cc in let k : false ≡ true =
        sym (not_done d.class (endpoint_now t.states d.label)) ∙ (ap (list_any (is_done id)) one ∙ h) in absurd (cc)
done_so t (Reply endpoint i) moves id e h = by (is_requested (pending t) i) (is_same_state (last_sent t.sends i) (Some endpoint)) refl e
  where
    sure : (b : Bool) → b || false ≡ true → b ≡ true
    sure true k = refl
    sure false k = k

    by : (there same : Bool) → is_same_state (last_sent t.sends i) (Some endpoint) ≡ same →
        one_move (replied_so t i there same).0 ≡ Ok moves → IsItsDriver t (Reply endpoint i) id
    by false same q e = cc
    by true false q e = cc
    by true true q e =
        let one : Answer i Done ∷ [] ≡ moves = cc in
        let this : i ≡ id = equal_number i id (sure (i == id) (ap (list_any (is_done id)) one ∙ h)) in
        (endpoint, ap (Reply endpoint) this, ap (last_sent t.sends) (sym this) ∙ same_state (last_sent t.sends i) (Some endpoint) q)

pub done_by_its_driver : DoneByItsDriver
done_by_its_driver entries t u call moves id run s h = done_so t call moves id (sym s.answer_is) h

-- ---- sends and starts
all_append : (P : Move → Type 0) (l k : List Move) → AllByRecursion P l → AllByRecursion P k → AllByRecursion P (l ++ k)
all_append P [] k h g = g
all_append P (m ∷ l) k h g = (h.0, all_append P l k h.1 g)

-- the request of an id is found by it
pub find_itself : (requests : List Request) → IsDistinct (λ (r s : Request). r.id == s.id) requests →
    AllByRecursion (λ (r : Request). find (is_for r.id) requests ≡ Some r) requests
unfolding IsDistinct
find_itself [] h = tt
find_itself (r ∷ requests) h =
    (ap (λ (b : Bool). cond b (Some r) (find (is_for r.id) requests)) (equal_itself r.id), later requests h.0 (find_itself requests h.1))
  where
    later : (l : List Request) → AllByRecursion (λ (s : Request). r.id == s.id ≡ false) l →
        AllByRecursion (λ (s : Request). find (is_for s.id) requests ≡ Some s) l →
        AllByRecursion (λ (s : Request). find (is_for s.id) (r ∷ requests) ≡ Some s) l
    later [] d f = tt
    later (s ∷ l) d f = (ap (λ (b : Bool). cond b (Some r) (find (is_for s.id) requests)) d.0 ∙ f.0, later l d.1 f.1)

find_new : (requests : List Request) (new : Request) → AllByRecursion (λ (r : Request). r.id == new.id ≡ false) requests →
    find (is_for new.id) (requests ++ new ∷ []) ≡ Some new
find_new [] new h = ap (λ (b : Bool). cond b (Some new) None) (equal_itself new.id)
find_new (r ∷ requests) new h = ap (λ (b : Bool). cond b (Some r) (find (is_for new.id) (requests ++ new ∷ []))) h.0 ∙
    find_new requests new h.1

-- after a new state of its label a driver has that endpoint
now_is : (t : DriverTable) (label : List ℕ) (e : EndpointRecord) (d : Driver) → is_same_name label d.label ≡ true →
    endpoint_now (notes t label (Some e)).states d.label ≡ Some e
now_is t label e d q = now_after t.states (record { label = label; endpoint = Some e }) d.label ∙
    ap (λ (b : Bool). cond b (Some e) (endpoint_now t.states d.label)) q

starts_go : (t u : DriverTable) (label : List ℕ) (state : Option EndpointRecord) → IsTableReached u → u.units ≡ t.units →
    u.states ≡ (notes t label state).states →
    (units : List (ℕ × Driver)) → AllByRecursion (λ (x : ℕ × Driver). driver_of t.units x.0 ≡ Some x.1) units →
    AllByRecursion (GoesToLiving u) (filter_map (start label state) units)
starts_go t u label state h same states [] f = tt
starts_go t u label state h same states (x ∷ units) f =
    by (is_same_name label x.1.label) refl x.1.class state refl (starts_go t u label state h same states units f.1)
  where
    rest_of : List Move
    rest_of = filter_map (start label state) units

    by : (b : Bool) → is_same_name label x.1.label ≡ b → (class : Class) (s : Option EndpointRecord) → s ≡ state →
        AllByRecursion (GoesToLiving u) rest_of →
        AllByRecursion (GoesToLiving u) (cons_option (cond b (network_start class x.0 s) None) rest_of)
    by false q class s n rest = rest
    by true q Block s n rest = rest
    by true q Character s n rest = rest
    by true q Network None n rest = rest
    by true q Network (Some e) n rest =
        let now : endpoint_now u.states x.1.label ≡ Some e = ap (λ (l : List LabelState). endpoint_now l x.1.label) states ∙
        (ap (λ (s : Option EndpointRecord). endpoint_now (notes t label s).states x.1.label) (sym n) ∙ now_is t label e x.1 q) in (
          record {
            driver = x.1;
            found = ap (λ (l : List (ℕ × Driver)). driver_of l x.0) same ∙ f.0;
            now = now;
            greatest =
                h.current x.1.label e now;
          },
          rest,
        )

settles_go : (t u : DriverTable) (label : List ℕ) (state : Option EndpointRecord) → IsTableReached u → u.units ≡ t.units →
    u.states ≡ (notes t label state).states →
    u.requests ≡ t.requests → (test : Request → Bool) (requests : List Request) →
    AllByRecursion (λ (r : Request). find (is_for r.id) t.requests ≡ Some r) requests →
    AllByRecursion (GoesToLiving u) (filter_map (settle t.units label state) (filter test requests))
settles_go t u label state h same states asked test [] f = tt
settles_go t u label state h same states asked test (r ∷ requests) f =
    by_pending (test r) (settles_go t u label state h same states asked test requests f.1)
  where
    rest_of : List Move
    rest_of = filter_map (settle t.units label state) (filter test requests)

    by_class : (d : Driver) → driver_of t.units r.unit ≡ Some d → is_same_name label d.label ≡ true →
        (class : Class) (s : Option EndpointRecord) → s ≡ state →
        AllByRecursion (GoesToLiving u) rest_of → AllByRecursion (GoesToLiving u) (cons_option (settled class r.id s) rest_of)
    by_class d found q Block None n rest = rest
    by_class d found q Block (Some e) n rest =
        let now : endpoint_now u.states d.label ≡ Some e =
        ap (λ (l : List LabelState). endpoint_now l d.label) states ∙
        (ap (λ (s : Option EndpointRecord). endpoint_now (notes t label s).states d.label) (sym n) ∙ now_is t label e d q) in (
          (
            r,
            ap (find (is_for r.id)) asked ∙ f.0,
            record {
              driver = d;
              found = ap (λ (l : List (ℕ × Driver)). driver_of l r.unit) same ∙ found;
              now = now;
              greatest =
                  h.current d.label e now;
            },
          ),
          rest,
        )
    by_class d found q Character s n rest = (tt, rest)
    by_class d found q Network s n rest = (tt, rest)

    by_test : (b : Bool) (d : Driver) → driver_of t.units r.unit ≡ Some d → is_same_name label d.label ≡ b →
        AllByRecursion (GoesToLiving u) rest_of →
        AllByRecursion (GoesToLiving u) (cons_option (cond b (settled d.class r.id state) None) rest_of)
    by_test false d found q rest = rest
    by_test true d found q rest = by_class d found q d.class state refl rest

    by : (d : Option Driver) → driver_of t.units r.unit ≡ d → AllByRecursion (GoesToLiving u) rest_of →
        AllByRecursion (GoesToLiving u) (cons_option (option_map_or (settled_of label state r.id) d None) rest_of)
    by None found rest = rest
    by (Some d) found rest = by_test (is_same_name label d.label) d found refl rest

    by_pending : (b : Bool) → AllByRecursion (GoesToLiving u) rest_of →
        AllByRecursion (GoesToLiving u) (filter_map (settle t.units label state) (cond b (r ∷ filter test requests) (filter test requests)))
    by_pending false rest = rest
    by_pending true rest = by (driver_of t.units r.unit) refl rest

goes_so : (t : DriverTable) (call : Call) (moves : List Move) → IsTableReached t → IsTableReached (table_outcome t call).1 →
    (table_outcome t call).0 ≡ Ok moves → AllByRecursion (GoesToLiving (table_outcome t call).1) moves
goes_so t (Assign unit driver) moves h after e = by (is_some (driver_of t.units unit)) e
  where
    by : (b : Bool) → no_moves (assigned_so t unit driver b).0 ≡ Ok moves →
        AllByRecursion (GoesToLiving (assigned_so t unit driver b).1) moves
    by true e = cc
    by false e = let none : [] ≡ moves = cc in subst (AllByRecursion (GoesToLiving (assigned_so t unit driver false).1)) none tt
goes_so t (Changed label state) moves h after e =
    by (has_label t.units label) (is_old (newest t.states label) (endpoint_now t.states label) state)
    (is_same_state (endpoint_now t.states label) state) after e
  where
    by : (has old same : Bool) → IsTableReached (changed_so t label state has old same).1 →
        (changed_so t label state has old same).0 ≡ Ok moves → AllByRecursion (GoesToLiving (changed_so t label state has old same).1) moves
    by false old same after e = let none : [] ≡ moves = cc in subst (AllByRecursion (GoesToLiving t)) none tt
    by true true same after e = cc
    by true false true after e = let none : [] ≡ moves = cc in
        subst (AllByRecursion (GoesToLiving (changed_so t label state true false true).1)) none tt
    by true false false after e =
        let all : all_moves t label state ≡ moves = cc in
        let u = does (notes t label state) (all_moves t label state) in
        subst (AllByRecursion (GoesToLiving u)) all
        (all_append (GoesToLiving u) (filter_map (start label state) t.units) (filter_map (settle t.units label state) (pending t))
        (starts_go t u label state after refl refl t.units h.units)
        (settles_go t u label state after refl refl refl (is_pending t.answers) t.requests (find_itself t.requests h.distinct)))
goes_so t (Submit id unit) moves h after e = by (is_above t.requests id) refl (driver_of t.units unit) refl after e
  where
    r : Request
    r = record { id = id; unit = unit }

    one : (d : Driver) → is_above t.requests id ≡ true → driver_of t.units unit ≡ Some d →
        IsTableReached (does (with_request t r) (move_of t r d ∷ [])) →
        (s : Option EndpointRecord) → endpoint_now t.states d.label ≡ s → (class : Class) →
        GoesToLiving (does (with_request t r) (move_of t r d ∷ [])) (submitted class id s)
    one d above found after (Some e) now class = (
      r,
      find_new t.requests r (other_ids t.requests id above),
      record
          { driver = d; found = found; now = now; greatest = after.current d.label e now },
    )
    one d above found after None now Block = tt
    one d above found after None now Character = tt
    one d above found after None now Network = tt

    by : (above : Bool) → is_above t.requests id ≡ above → (d : Option Driver) → driver_of t.units unit ≡ d →
        IsTableReached (submitted_so t r above d).1 →
        one_move (submitted_so t r above d).0 ≡ Ok moves → AllByRecursion (GoesToLiving (submitted_so t r above d).1) moves
    by false a d found after e = cc
    by true a None found after e = cc
    by true a (Some d) found after e = let this : move_of t r d ∷ [] ≡ moves = cc in
        subst (AllByRecursion (GoesToLiving (does (with_request t r) (move_of t r d ∷ [])))) this
        (one d a found after (endpoint_now t.states d.label) refl d.class, tt)
goes_so t (Reply endpoint id) moves h after e = by (is_requested (pending t) id) (is_same_state (last_sent t.sends id) (Some endpoint)) e
  where
    by : (there same : Bool) → one_move (replied_so t id there same).0 ≡ Ok moves →
        AllByRecursion (GoesToLiving (replied_so t id there same).1) moves
    by false same e = cc
    by true false e = cc
    by true true e = let this : Answer id Done ∷ [] ≡ moves = cc in
        subst (AllByRecursion (GoesToLiving (replied_so t id true true).1)) this (tt, tt)

pub none_to_older : NoneToOlder
none_to_older entries t u call moves run s =
    let h = reached t entries run in
    subst (λ (x : DriverTable). AllByRecursion (GoesToLiving x) moves) (sym s.after)
    (goes_so t call moves h (reached_outcome t call h) (sym s.answer_is))

-- ---- the greatest generation
abbrev Rises : List LabelState → List LabelState → List ℕ → ℕ → Type 0
Rises before after label g = newest before label ≡ Some g → (h : ℕ) × (newest after label ≡ Some h) × (g ≤ h)

stays : (states : List LabelState) (label : List ℕ) (g : ℕ) → Rises states states label g
stays states label g e = (g, e, omega arith)

one_rises : (states : List LabelState) (s : LabelState) (label : List ℕ) (g : ℕ) → Rises states (states ++ s ∷ []) label g
one_rises states s label g e = by (is_same_name s.label label) (newest_after states s label)
  where
    less : (a b : ℕ) → nat_lt a b ≡ true → a ≤ b
    less a b l = grind (arith, nat_tests)

    greater : (state : Option EndpointRecord) → newest (states ++ s ∷ []) label ≡ newer (Some g) state →
        (h : ℕ) × (newest (states ++ s ∷ []) label ≡ Some h) × (g ≤ h)
    greater None q = (g, q, omega arith)
    greater (Some x) q = at (nat_lt g x.generation) refl q
      where
        at : (b : Bool) → nat_lt g x.generation ≡ b → newest (states ++ s ∷ []) label ≡ Some (cond b x.generation g) →
            (h : ℕ) × (newest (states ++ s ∷ []) label ≡ Some h) × (g ≤ h)
        at true l q = (x.generation, q, less g x.generation l)
        at false l q = (g, q, omega arith)

    by : (b : Bool) → newest (states ++ s ∷ []) label ≡ cond b (newer (newest states label) s.endpoint) (newest states label) →
        (h : ℕ) × (newest (states ++ s ∷ []) label ≡ Some h) × (g ≤ h)
    by false q = (g, q ∙ e, omega arith)
    by true q = greater s.endpoint (q ∙ ap (λ (n : Option ℕ). newer n s.endpoint) e)

rises_outcome : (t : DriverTable) (call : Call) (label : List ℕ) (g : ℕ) → Rises t.states (table_outcome t call).1.states label g
rises_outcome t (Assign unit driver) label g = by (is_some (driver_of t.units unit))
  where
    by : (b : Bool) → Rises t.states (assigned_so t unit driver b).1.states label g
    by true = stays t.states label g
    by false = stays t.states label g
rises_outcome t (Changed of state) label g =
    by (has_label t.units of) (is_old (newest t.states of) (endpoint_now t.states of) state)
    (is_same_state (endpoint_now t.states of) state)
  where
    by : (has old same : Bool) → Rises t.states (changed_so t of state has old same).1.states label g
    by false old same = stays t.states label g
    by true true same = stays t.states label g
    by true false same = one_rises t.states (record { label = of; endpoint = state }) label g
rises_outcome t (Submit id unit) label g = by (is_above t.requests id) (driver_of t.units unit)
  where
    by : (above : Bool) (d : Option Driver) → Rises t.states (submitted_so t (record { id = id; unit = unit }) above d).1.states label g
    by false d = stays t.states label g
    by true None = stays t.states label g
    by true (Some d) = stays t.states label g
rises_outcome t (Reply endpoint id) label g = by (is_requested (pending t) id) (is_same_state (last_sent t.sends id) (Some endpoint))
  where
    by : (there same : Bool) → Rises t.states (replied_so t id there same).1.states label g
    by false same = stays t.states label g
    by true false = stays t.states label g
    by true true = stays t.states label g

rises_step : (t u : DriverTable) (call : Call) (answer : Result (List Move) TableFault) (label : List ℕ) (g : ℕ) →
    TableStep t call answer u → Rises t.states u.states label g
rises_step t u call (Ok moves) label g s =
    subst (λ (x : DriverTable). Rises t.states x.states label g) (sym s.after) (rises_outcome t call label g)
rises_step t u call (Err fault) label g s =
    subst (λ (x : DriverTable). Rises t.states x.states label g) (sym s.unchanged) (stays t.states label g)

pub newest_rises : NewestRises
newest_rises t u [] label g run e = (g, ap (λ (x : DriverTable). newest x.states label) (sym run) ∙ e, omega arith)
newest_rises t u (entry ∷ entries) label g run e =
    let first = rises_step t run.0 entry.call entry.answer label g run.1 e in
    let rest = newest_rises run.0 u entries label first.0 run.2 first.1 in
    (rest.0, rest.1, trans g first.0 rest.0 first.2 rest.2)
  where
    trans : (a b c : ℕ) → a ≤ b → b ≤ c → a ≤ c
    trans a b c l m = omega arith

-- ---- requests to block drivers
kept_from : (t : DriverTable) (r : Request) (d : Driver) (l : List Ending) → values_of r.id t.answers ≡ l → (class : Class) →
    class ≡ Block → IsAnsweredBy class l →
    (values_of r.id t.answers ≡ [] → (e : EndpointRecord) → endpoint_now t.states d.label ≡ Some e → last_sent t.sends r.id ≡ Some e) →
    IsRequestKept t r d
kept_from t r d [] q class b h sent = inr (q, sent q)
kept_from t r d (Done ∷ []) q class b h sent = inl q
kept_from t r d (Fault ∷ []) q Block b h sent = absurd h
kept_from t r d (Fault ∷ []) q Character b h sent = cc
kept_from t r d (Fault ∷ []) q Network b h sent = cc
kept_from t r d (Done ∷ y ∷ l) q Block b h sent = absurd h
kept_from t r d (Done ∷ y ∷ l) q Character b h sent = absurd h
kept_from t r d (Done ∷ y ∷ l) q Network b h sent = absurd h
kept_from t r d (Fault ∷ y ∷ l) q Block b h sent = absurd h
kept_from t r d (Fault ∷ y ∷ l) q Character b h sent = absurd h
kept_from t r d (Fault ∷ y ∷ l) q Network b h sent = absurd h

kept_each : (t : DriverTable) (requests : List Request) → AllByRecursion (IsRequestServed t) requests →
    AllByRecursion (λ (r : Request). (d : Driver) → driver_of t.units r.unit ≡ Some d → d.class ≡ Block → IsRequestKept t r d) requests
kept_each t [] h = tt
kept_each t (r ∷ requests) h = (
  λ d found block.
      let same : h.0.driver ≡ d = one h.0.driver d (sym h.0.found ∙ found) in
      subst (IsRequestKept t r) same (kept_from t r h.0.driver (values_of r.id t.answers) refl h.0.driver.class
      (ap (λ (x : Driver). x.class) same ∙ block) h.0.answered h.0.sent),
  kept_each t requests h.1,
)
  where
    one : (a b : Driver) → Some a ≡ Some b → a ≡ b
    one a b e = cc

pub block_requests_are_kept : BlockRequestsAreKept
block_requests_are_kept entries t run = kept_each t t.requests (reached t entries run).served
