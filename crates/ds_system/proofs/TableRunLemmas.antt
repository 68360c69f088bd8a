-- Runs of calls on a driver table, from one table to another.
use Rattle.std.proofs.Common.{◌≡◌, ℕ, ◌≤◌, Bool, true, false, List, [], ◌∷◌, ◌++◌, Option, Some, None, is_some, Result, Ok, refl, ap, sym}
use Rattle.std.proofs.Common.{◌∙◌, subst}
use Rattle.std.specs.List.{fold, find}
use Rattle.std.specs.Option.{option_or, option_and_then}
use Rattle.std.proofs.lemmas.List.Folds.{find-append}
use Rattle.ds_names.specs.Endpoint.{EndpointRecord}
use Rattle.ds_entry.specs.declared.item.Item.{Item}
use Rattle.ds_held.proofs.MergeLemmas.{no_some}
use Rattle.history.proofs.RunLemmas.{path_join}
use Rattle.driver_tables.specs.declared.moves.Move.{Move}
use Rattle.driver_tables.specs.declared.moves.Move.TheVariants.{Start, Send, Answer, Held}
use Rattle.driver_tables.specs.declared.fault.TableFault.{TableFault}
use Rattle.driver_tables.specs.Assign.{assigning}
use Rattle.driver_tables.specs.Doing.{does}
use Rattle.driver_tables.specs.Driver.{Driver, driver_of}
use Rattle.driver_tables.specs.DriverTable.{DriverTable, Request, empty_table, is_for, is_above}
use Rattle.driver_tables.specs.Label.{newest}
use Rattle.driver_tables.specs.Reply.{replying}
use Rattle.driver_tables.specs.Submit.{submitting, with_request, move_of}
use Rattle.driver_tables.specs.Run.{Entry, Call, TableStep, TableRun, Assign, Submit, Reply, no_moves, one_move}
use Rattle.driver_tables.proofs.LawLemmas.{newest_rises}
use Rattle.driver_tables.proofs.RunLemmas.{assigned_so, submitted_so}
use Rattle.rs_to_store.specs.Following.{Follows}
use Rattle.rs_to_store.proofs.FollowLemmas.{follows_are_runs}
use Rattle.ds_system.specs.Laws.{IsCalled}
use Rattle.ds_system.specs.Start.{assigned_all}
use Rattle.ds_system.specs.Sending.{label_of_unit, label_of_request, label_of}

-- calls lead from one table to the other
abbrev pub LeadsOn : DriverTable → DriverTable → Type 0
LeadsOn t u = (entries : List Entry) × TableRun t entries u

pub no_calls : (t u : DriverTable) → u ≡ t → LeadsOn t u
no_calls t u e = ([], sym e)

pub calls_twice : (t x u : DriverTable) → LeadsOn t x → LeadsOn x u → LeadsOn t u
calls_twice t x u one two = (
  one.0 ++ two.0,
  path_join (λ (t : DriverTable) (entry : Entry) (u : DriverTable). TableStep t entry.call entry.answer u) t x u one.0
      two.0 one.1 two.1,
)

pub one_call : (t u : DriverTable) (call : Call) (answer : Result (List Move) TableFault) → TableStep t call answer u → LeadsOn t u
one_call t u call answer step = (record { call = call; answer = answer } ∷ [], (u, step, refl))

pub follow_calls : (held : List Item) (labels : List (List ℕ)) (t : DriverTable) (rounds : List (List Move)) (fault : Option TableFault)
    (u : DriverTable) → Follows held labels t rounds fault u → LeadsOn t u
follow_calls held labels t rounds fault u f = let r = follows_are_runs held labels t u rounds fault f in (r.entries, r.run)

-- the newest generation of a label never falls
abbrev pub Rises : DriverTable → DriverTable → List ℕ → Type 0
Rises t u label = (g : ℕ) → newest t.states label ≡ Some g → (h : ℕ) × (newest u.states label ≡ Some h) × (g ≤ h)

pub calls_rise : (t u : DriverTable) (label : List ℕ) → LeadsOn t u → Rises t u label
calls_rise t u label run g e = newest_rises t u run.0 label g run.1 e

-- ---- a request
pub submit_step : (t u : DriverTable) (id unit : ℕ) (own : Move) → submitting t id unit ≡ (Ok own, u) →
    TableStep t (Submit id unit) (Ok (own ∷ [])) u
submit_step t u id unit own e = record {
  answer_is = sym (ap (λ (p : Result Move TableFault × DriverTable). one_move p.0) e);
  after = sym (ap (λ (p : Result Move TableFault × DriverTable). p.1) e);
  unchanged = tt;
}

pub reply_step : (t u : DriverTable) (endpoint : EndpointRecord) (id : ℕ) (own : Move) → replying t endpoint id ≡ (Ok own, u) →
    TableStep t (Reply endpoint id) (Ok (own ∷ [])) u
reply_step t u endpoint id own e = record {
  answer_is = sym (ap (λ (p : Result Move TableFault × DriverTable). one_move p.0) e);
  after = sym (ap (λ (p : Result Move TableFault × DriverTable). p.1) e);
  unchanged = tt;
}

-- it changes no label's state, nor what moves are about
pub record LeavesLabels (t u : DriverTable) : Type 0 where
  pub units : u.units ≡ t.units
  pub states : u.states ≡ t.states
  pub labels : (m : Move) (label : List ℕ) → label_of t m ≡ Some label → label_of u m ≡ Some label

more_requests : (units : List (ℕ × Driver)) (requests more : List Request) (id : ℕ) (label : List ℕ) →
    label_of_request units requests id ≡ Some label → label_of_request units (requests ++ more) id ≡ Some label
more_requests units requests more id label e = by (find (is_for id) requests) refl e
  where
    by : (o : Option Request) → find (is_for id) requests ≡ o →
        option_and_then (λ (r : Request). label_of_unit units r.unit) o ≡ Some label →
        label_of_request units (requests ++ more) id ≡ Some label
    by None q k = no_some label k
    by (Some r) q k = ap (option_and_then (λ (z : Request). label_of_unit units z.unit))
        (find-append (is_for id) requests more ∙ ap (λ (o : Option Request). option_or o (find (is_for id) more)) q) ∙ k

pub submit_leaves : (t u : DriverTable) (id unit : ℕ) (own : Move) → submitting t id unit ≡ (Ok own, u) → LeavesLabels t u
submit_leaves t u id unit own e = by (is_above t.requests id) (driver_of t.units unit) e
  where
    r : Request
    r = record { id = id; unit = unit }

    labels_after : (d : Driver) (m : Move) (label : List ℕ) → label_of t m ≡ Some label →
        label_of (does (with_request t r) (move_of t r d ∷ [])) m ≡ Some label
    labels_after d (Start n f) label k = k
    labels_after d (Send n f) label k = more_requests t.units t.requests (r ∷ []) n label k
    labels_after d (Answer n ending) label k = more_requests t.units t.requests (r ∷ []) n label k
    labels_after d (Held n) label k = more_requests t.units t.requests (r ∷ []) n label k

    by : (above : Bool) (d : Option Driver) → submitted_so t r above d ≡ (Ok own, u) → LeavesLabels t u
    by false d k = let n = ap (λ (p : Result Move TableFault × DriverTable). p.0) k in cc
    by true None k = let n = ap (λ (p : Result Move TableFault × DriverTable). p.0) k in cc
    by true (Some d) k = subst (LeavesLabels t) (ap (λ (p : Result Move TableFault × DriverTable). p.1) k)
        (record { units = refl; states = refl; labels = labels_after d })

-- ---- units that are assigned
assign_leads : (t : DriverTable) (unit : ℕ) (driver : Driver) → LeadsOn t (assigning t unit driver).1
assign_leads t unit driver = by (is_some (driver_of t.units unit)) refl
  where
    answer_so : (b : Bool) → is_some (driver_of t.units unit) ≡ b → assigning t unit driver ≡ assigned_so t unit driver b
    answer_so b e = ap (assigned_so t unit driver) e

    by : (b : Bool) → is_some (driver_of t.units unit) ≡ b → LeadsOn t (assigning t unit driver).1
    by true e = no_calls t (assigning t unit driver).1 (ap (λ (p : Result (Unit {0}) TableFault × DriverTable). p.1) (answer_so true e))
    by false e = one_call t (assigning t unit driver).1 (Assign unit driver) (Ok []) (record {
      answer_is = sym (ap (λ (p : Result (Unit {0}) TableFault × DriverTable). no_moves p.0) (answer_so false e));
      after = refl;
      unchanged = tt;
    })

-- the table after more units are assigned
abbrev pub assigned_to : DriverTable → List (ℕ × Driver) → DriverTable
assigned_to t units = fold (λ (t : DriverTable) (u : ℕ × Driver). (assigning t u.0 u.1).1) t units

assigned_leads : (units : List (ℕ × Driver)) (t : DriverTable) → LeadsOn t (assigned_to t units)
assigned_leads [] t = no_calls t t refl
assigned_leads (u ∷ units) t = calls_twice t (assigning t u.0 u.1).1 (assigned_to (assigning t u.0 u.1).1 units) (assign_leads t u.0 u.1)
    (assigned_leads units (assigning t u.0 u.1).1)

pub assigned_called : (units : List (ℕ × Driver)) → IsCalled (assigned_all units)
assigned_called units = assigned_leads units empty_table
