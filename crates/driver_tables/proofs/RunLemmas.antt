-- Runs keep the invariant of tables that began empty.
use Rattle.std.proofs.Common.{◌≡◌, ℕ, Bool, true, false, not, cond, List, [], ◌∷◌, ◌++◌, Option, Some, None, is_some, Result, Ok, Err, refl}
use Rattle.std.proofs.Common.{sym, ap, ◌∙◌, subst, append-nil, append_assoc}
use Rattle.std.specs.List.{flat_map, cons_option}
use Rattle.std.specs.Option.{option_to_list}
use Rattle.std.proofs.lemmas.Grind.{flat_map-append}
use Rattle.ds_names.specs.Endpoint.{EndpointRecord}
use Rattle.driver_tables.specs.declared.moves.Ending.{Ending}
use Rattle.driver_tables.specs.declared.moves.Ending.TheVariants.{Done}
use Rattle.driver_tables.specs.declared.moves.Move.{Move}
use Rattle.driver_tables.specs.declared.moves.Move.TheVariants.{Answer}
use Rattle.driver_tables.specs.declared.fault.TableFault.{TableFault}
use Rattle.driver_tables.specs.declared.fault.TableFault.TheVariants.{Assigned, TwoIds, NotPending, OldEndpoint}
use Rattle.driver_tables.specs.Driver.{Driver, driver_of, has_label}
use Rattle.driver_tables.specs.Label.{endpoint_now, newest, is_same_state, is_old}
use Rattle.driver_tables.specs.DriverTable.{DriverTable, Request, empty_table, last_sent, pending, is_requested, is_above}
use Rattle.driver_tables.specs.Doing.{sends_of, answered_by, does}
use Rattle.driver_tables.specs.Assign.{assigns, assigning}
use Rattle.driver_tables.specs.Changed.{all_moves, notes}
use Rattle.driver_tables.specs.Submit.{move_of, with_request, submitting_to}
use Rattle.driver_tables.specs.Reply.{finishes}
use Rattle.driver_tables.specs.Reached.{IsTableReached}
use Rattle.driver_tables.specs.Run.{Call, Entry, TableStep, TableRun, table_outcome, no_moves, one_move, moves_in, all_moves_in, request_in}
use Rattle.driver_tables.specs.Run.{requests_in}
use Rattle.driver_tables.specs.Run.{Assign, Changed, Submit, Reply}
use Rattle.driver_tables.proofs.StandsLemmas.{stands_opening}
use Rattle.driver_tables.proofs.AssignLemmas.{assigning_at, reached_assigned}
use Rattle.driver_tables.proofs.SubmitLemmas.{reached_taken}
use Rattle.driver_tables.proofs.ReplyLemmas.{reached_finished}
use Rattle.driver_tables.proofs.ChangeLemmas.{does_is, notes_is, reached_moved, reached_noted}
use Rattle.ds_names.proofs.Tests.{none_from}

-- ---- the outcomes, by what was judged
abbrev pub assigned_so : DriverTable → ℕ → Driver → Bool → Result (Unit {0}) TableFault × DriverTable
assigned_so t unit driver there = cond there (Err Assigned, t) (Ok tt, assigns t unit driver)

abbrev pub changed_so : DriverTable → List ℕ → Option EndpointRecord → Bool → Bool → Bool → Result (List Move) TableFault × DriverTable
changed_so t label state has old same =
    cond (not has) (Ok [], t) (cond old (Err OldEndpoint, t)
    (Ok (cond same [] (all_moves t label state)), does (notes t label state) (cond same [] (all_moves t label state))))

abbrev pub submitted_so : DriverTable → Request → Bool → Option Driver → Result Move TableFault × DriverTable
submitted_so t r above d = cond above (submitting_to t r d) (Err TwoIds, t)

abbrev pub replied_so : DriverTable → ℕ → Bool → Bool → Result Move TableFault × DriverTable
replied_so t id there same = cond there (cond same (Ok (Answer id Done), finishes t id) (Err OldEndpoint, t)) (Err NotPending, t)

-- ---- what a step leaves

-- an accepted call has the table's own outcome
pub accepted : (t u : DriverTable) (call : Call) (moves : List Move) → TableStep t call (Ok moves) u →
    ((table_outcome t call).0 ≡ Ok moves) × (u ≡ (table_outcome t call).1)
accepted t u call moves s = (sym s.answer_is, s.after)

pub reached_outcome : (t : DriverTable) (call : Call) → IsTableReached t → IsTableReached (table_outcome t call).1
reached_outcome t (Assign unit driver) h = by (is_some (driver_of t.units unit)) refl
  where
    by : (b : Bool) → is_some (driver_of t.units unit) ≡ b → IsTableReached (assigning t unit driver).1
    by true e = subst (λ (p : Result (Unit {0}) TableFault × DriverTable). IsTableReached p.1) (sym (assigning_at t unit driver true e)) h
    by false e = subst (λ (p : Result (Unit {0}) TableFault × DriverTable). IsTableReached p.1) (sym (assigning_at t unit driver false e))
        (reached_assigned t unit driver h (none_from _ e))
reached_outcome t (Changed label state) h =
    by (has_label t.units label) refl (is_old (newest t.states label) (endpoint_now t.states label) state) refl
    (is_same_state (endpoint_now t.states label) state) refl
  where
    by : (has : Bool) → has_label t.units label ≡ has → (old : Bool) →
        is_old (newest t.states label) (endpoint_now t.states label) state ≡ old → (same : Bool) →
        is_same_state (endpoint_now t.states label) state ≡ same →
        IsTableReached (changed_so t label state has old same).1
    by false a old b same c = h
    by true a true b same c = h
    by true a false b true c = subst IsTableReached (sym (notes_is t label state)) (reached_noted t label state h a b c)
    by true a false b false c = subst IsTableReached (sym (does_is t label state)) (reached_moved t label state h a b)
reached_outcome t (Submit id unit) h = by (is_above t.requests id) refl (driver_of t.units unit) refl
  where
    r : Request
    r = record { id = id; unit = unit }

    by : (above : Bool) → is_above t.requests id ≡ above → (d : Option Driver) → driver_of t.units unit ≡ d →
        IsTableReached (submitted_so t r above d).1
    by false a d e = h
    by true a None e = h
    by true a (Some d) e = reached_taken t r d h a e
reached_outcome t (Reply endpoint id) h = by (is_requested (pending t) id) refl (is_same_state (last_sent t.sends id) (Some endpoint))
  where
    by : (there : Bool) → is_requested (pending t) id ≡ there → (same : Bool) → IsTableReached (replied_so t id there same).1
    by false a same = h
    by true a false = h
    by true a true = reached_finished t id h a

pub reached_step : (t u : DriverTable) (call : Call) (answer : Result (List Move) TableFault) → TableStep t call answer u →
    IsTableReached t → IsTableReached u
reached_step t u call (Ok moves) s h = subst IsTableReached (sym s.after) (reached_outcome t call h)
reached_step t u call (Err fault) s h = subst IsTableReached (sym s.unchanged) h

pub reached_run : (t u : DriverTable) (entries : List Entry) → TableRun t entries u → IsTableReached t → IsTableReached u
reached_run t u [] run h = subst IsTableReached run h
reached_run t u (entry ∷ entries) run h = reached_run run.0 u entries run.2 (reached_step t run.0 entry.call entry.answer run.1 h)

pub reached : (t : DriverTable) (entries : List Entry) → TableRun empty_table entries t → IsTableReached t
reached t entries run = reached_run empty_table t entries run (stands_opening [] [] refl refl).reached

-- ---- the lists follow from the calls and their answers
pub record Tells (t u : DriverTable) (moves : List Move) (r : Option Request) : Type 0 where
  pub requests : u.requests ≡ t.requests ++ option_to_list r
  pub sends : u.sends ≡ t.sends ++ flat_map sends_of moves
  pub answers : u.answers ≡ t.answers ++ flat_map answered_by moves

tells_nothing : (t : DriverTable) → Tells t t [] None
tells_nothing t = record { requests = sym (append-nil t.requests); sends = sym (append-nil t.sends); answers = sym (append-nil t.answers) }

-- by the answer that a call's parts give
tells_outcome : (t : DriverTable) (call : Call) (moves : List Move) → (table_outcome t call).0 ≡ Ok moves →
    Tells t (table_outcome t call).1 moves (request_in call (Ok moves))
tells_outcome t (Assign unit driver) moves e = by (is_some (driver_of t.units unit)) e
  where
    by : (b : Bool) → no_moves (assigned_so t unit driver b).0 ≡ Ok moves → Tells t (assigned_so t unit driver b).1 moves None
    by true e = cc
    by false e = let none : [] ≡ moves = cc in subst (λ (l : List Move). Tells t (assigns t unit driver) l None) none
        (record { requests = sym (append-nil t.requests); sends = sym (append-nil t.sends); answers = sym (append-nil t.answers) })
tells_outcome t (Changed label state) moves e =
    by (has_label t.units label) (is_old (newest t.states label) (endpoint_now t.states label) state)
    (is_same_state (endpoint_now t.states label) state) e
  where
    by : (has old same : Bool) → (changed_so t label state has old same).0 ≡ Ok moves →
        Tells t (changed_so t label state has old same).1 moves None
    by false old same e = let none : [] ≡ moves = cc in subst (λ (l : List Move). Tells t t l None) none (tells_nothing t)
    by true true same e = cc
    by true false same e =
        let all : cond same [] (all_moves t label state) ≡ moves = cc in
        subst (λ (l : List Move). Tells t (does (notes t label state) (cond same [] (all_moves t label state))) l None) all
        (record { requests = sym (append-nil t.requests); sends = refl; answers = refl })
tells_outcome t (Submit id unit) moves e = by (is_above t.requests id) (driver_of t.units unit) e
  where
    r : Request
    r = record { id = id; unit = unit }

    by : (above : Bool) (d : Option Driver) → one_move (submitted_so t r above d).0 ≡ Ok moves →
        Tells t (submitted_so t r above d).1 moves (Some r)
    by false d e = cc
    by true None e = cc
    by true (Some d) e = let one : move_of t r d ∷ [] ≡ moves = cc in
        subst (λ (l : List Move). Tells t (does (with_request t r) (move_of t r d ∷ [])) l (Some r)) one
        (record { requests = refl; sends = refl; answers = refl })
tells_outcome t (Reply endpoint id) moves e = by (is_requested (pending t) id) (is_same_state (last_sent t.sends id) (Some endpoint)) e
  where
    by : (there same : Bool) → one_move (replied_so t id there same).0 ≡ Ok moves → Tells t (replied_so t id there same).1 moves None
    by false same e = cc
    by true false e = cc
    by true true e = let one : Answer id Done ∷ [] ≡ moves = cc in
        subst (λ (l : List Move). Tells t (finishes t id) l None) one
        (record { requests = sym (append-nil t.requests); sends = refl; answers = refl })

tells_step : (t u : DriverTable) (call : Call) (answer : Result (List Move) TableFault) → TableStep t call answer u →
    Tells t u (moves_in answer) (request_in call answer)
tells_step t u call (Ok moves) s = subst (λ (u : DriverTable). Tells t u moves (request_in call (Ok moves))) (sym s.after)
    (tells_outcome t call moves (sym s.answer_is))
tells_step t u call (Err fault) s = subst (λ (u : DriverTable). Tells t u [] (request_in call (Err fault))) (sym s.unchanged) (refused call)
  where
    refused : (call : Call) → Tells t t [] (request_in call (Err fault))
    refused (Assign unit driver) = tells_nothing t
    refused (Changed label state) = tells_nothing t
    refused (Submit id unit) = tells_nothing t
    refused (Reply endpoint id) = tells_nothing t

pub tells_run : (t u : DriverTable) (entries : List Entry) → TableRun t entries u →
    (u.requests ≡ t.requests ++ requests_in entries) × (u.sends ≡ t.sends ++ flat_map sends_of (all_moves_in entries)) ×
    (u.answers ≡ t.answers ++ flat_map answered_by (all_moves_in entries))
tells_run t u [] run = (
  ap (λ (x : DriverTable). x.requests) (sym run) ∙ sym (append-nil t.requests),
  ap (λ (x : DriverTable). x.sends) (sym run) ∙
      sym (append-nil t.sends),
  ap (λ (x : DriverTable). x.answers) (sym run) ∙ sym (append-nil t.answers),
)
tells_run t u (entry ∷ entries) run =
    let mid = run.0 in
    let first = tells_step t mid entry.call entry.answer run.1 in
    let rest = tells_run mid u entries run.2 in
    let moves = moves_in entry.answer in (
      rest.0 ∙ (ap (λ (l : List Request). l ++ requests_in entries) first.requests ∙
          (append_assoc t.requests (option_to_list (request_in entry.call entry.answer)) (requests_in entries) ∙
          ap (λ (l : List Request). t.requests ++ l) (one_more (request_in entry.call entry.answer) (requests_in entries)))),
      rest.1 ∙ (ap (λ (l : List (ℕ × EndpointRecord)). l ++ flat_map sends_of (all_moves_in entries)) first.sends ∙
          (append_assoc t.sends (flat_map sends_of moves) (flat_map sends_of (all_moves_in entries)) ∙
          ap (λ (l : List (ℕ × EndpointRecord)). t.sends ++ l) (sym (flat_map-append sends_of moves (all_moves_in entries))))),
      rest.2 ∙ (ap (λ (l : List (ℕ × Ending)). l ++ flat_map answered_by (all_moves_in entries)) first.answers ∙
          (append_assoc t.answers (flat_map answered_by moves) (flat_map answered_by (all_moves_in entries)) ∙
          ap (λ (l : List (ℕ × Ending)). t.answers ++ l) (sym (flat_map-append answered_by moves (all_moves_in entries))))),
    )
  where
    one_more : (o : Option Request) (l : List Request) → option_to_list o ++ l ≡ cons_option o l
    one_more None l = refl
    one_more (Some r) l = refl
