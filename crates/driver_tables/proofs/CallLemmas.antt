-- Calls on driver tables, as the code makes them, and as steps of a run.
use Rattle.std.proofs.Common.{◌≡◌, ◌≢◌, ℕ, Bool, true, false, cond, [], ◌∷◌, Some, Result, Ok, Err, OnErr, refl, sym, ap, subst}
use Rattle.ds_names.specs.Endpoint.{EndpointRecord}
use Rattle.driver_tables.specs.declared.fault.TableFault.{TableFault}
use Rattle.driver_tables.specs.declared.fault.TableFault.TheVariants.{Assigned, TwoIds, NoDevice, NotPending, OldEndpoint, NoRoom}
use Rattle.driver_tables.specs.declared.moves.Ending.TheVariants.{Done}
use Rattle.driver_tables.specs.declared.moves.Move.{Move}
use Rattle.driver_tables.specs.declared.moves.Move.TheVariants.{Answer as Answered}
use Rattle.driver_tables.specs.Answer.{IsAnswer}
use Rattle.driver_tables.specs.Assign.{assigning}
use Rattle.driver_tables.specs.Driver.{Driver}
use Rattle.driver_tables.specs.DriverTable.{DriverTable, last_sent, pending, is_requested}
use Rattle.driver_tables.specs.Label.{is_same_state}
use Rattle.driver_tables.specs.Outcome.{AnswersAs, LeavesAs}
use Rattle.driver_tables.specs.Reply.{replying, finishes}
use Rattle.driver_tables.specs.Run.{TableStep, no_moves, one_move, Assign, Submit, Reply}
use Rattle.driver_tables.specs.Stands.{TableRecord, TableStands}
use Rattle.driver_tables.specs.Submit.{submitting}

-- ---- answers as lists of moves

no_answer : (out answer : Result (Unit {0}) TableFault) → IsAnswer out answer → IsAnswer (no_moves out) (no_moves answer)
no_answer out (Err NoRoom) h = ([], ap no_moves h.1)
no_answer out (Ok done) h = ap no_moves h
no_answer out (Err Assigned) h = ap no_moves h
no_answer out (Err TwoIds) h = ap no_moves h
no_answer out (Err NoDevice) h = ap no_moves h
no_answer out (Err NotPending) h = ap no_moves h
no_answer out (Err OldEndpoint) h = ap no_moves h

one_answer : (out answer : Result Move TableFault) → IsAnswer out answer → IsAnswer (one_move out) (one_move answer)
one_answer out (Err NoRoom) h = (h.0 ∷ [], ap one_move h.1)
one_answer out (Ok step) h = ap one_move h
one_answer out (Err Assigned) h = ap one_move h
one_answer out (Err TwoIds) h = ap one_move h
one_answer out (Err NoDevice) h = ap one_move h
one_answer out (Err NotPending) h = ap one_move h
one_answer out (Err OldEndpoint) h = ap one_move h

-- the table's own answer, which is never NoRoom
same_answer : {A : Type 0} (out answer : Result A TableFault) → answer ≡ out → out ≢ Err NoRoom → IsAnswer out answer
same_answer out (Err NoRoom) e never = absurd (never (sym e))
same_answer out (Ok a) e never = e
same_answer out (Err Assigned) e never = e
same_answer out (Err TwoIds) e never = e
same_answer out (Err NoDevice) e never = e
same_answer out (Err NotPending) e never = e
same_answer out (Err OldEndpoint) e never = e

abbrev judged_as : DriverTable → ℕ → Bool → Bool → Result Move TableFault × DriverTable
judged_as t id there same = cond there (cond same (Ok (Answered id Done), finishes t id) (Err OldEndpoint, t)) (Err NotPending, t)

none_wants : (t : DriverTable) (id : ℕ) (there same : Bool) → (judged_as t id there same).0 ≢ Err NoRoom
none_wants t id true true = λ e. cc
none_wants t id true false = λ e. cc
none_wants t id false same = λ e. cc

never_wants : (t : DriverTable) (endpoint : EndpointRecord) (id : ℕ) → (replying t endpoint id).0 ≢ Err NoRoom
never_wants t endpoint id = none_wants t id (is_requested (pending t) id) (is_same_state (last_sent t.sends id) (Some endpoint))

-- ---- calls

module _ (old new : TableRecord) (t : DriverTable) (stands : TableStands old t) where
  pub assign_step : (unit : ℕ) (driver : Driver) (answer : Result (Unit {0}) TableFault) →
      AnswersAs old (λ s. assigning s unit driver) answer → LeavesAs old (λ s. assigning s unit driver) answer new →
      OnErr answer (new ≡ old)
      → (u : DriverTable) × TableStep t (Assign unit driver) (no_moves answer) u × TableStands new u
  assign_step unit driver (Ok done) answers leaves same = (
    (assigning t unit driver).1,
    record {
      answer_is = no_answer (assigning t unit driver).0 (Ok done) (answers t stands);
      after =
          refl;
      unchanged = tt;
    },
    leaves t stands,
  )
  assign_step unit driver (Err fault) answers leaves same = (
    t,
    record { answer_is = no_answer (assigning t unit driver).0 (Err fault) (answers t stands); after = tt; unchanged = refl },
    subst
        (λ (v : TableRecord). TableStands v t) (sym same) stands,
  )

  pub submit_step : (id unit : ℕ) (answer : Result Move TableFault) → AnswersAs old (λ s. submitting s id unit) answer →
      LeavesAs old (λ s. submitting s id unit) answer new → OnErr answer (new ≡ old)
      → (u : DriverTable) × TableStep t (Submit id unit) (one_move answer) u × TableStands new u
  submit_step id unit (Ok step) answers leaves same = (
    (submitting t id unit).1,
    record {
      answer_is = one_answer (submitting t id unit).0 (Ok step) (answers t stands);
      after =
          refl;
      unchanged = tt;
    },
    leaves t stands,
  )
  submit_step id unit (Err fault) answers leaves same = (
    t,
    record { answer_is = one_answer (submitting t id unit).0 (Err fault) (answers t stands); after = tt; unchanged = refl },
    subst
        (λ (v : TableRecord). TableStands v t) (sym same) stands,
  )

  pub reply_step : (endpoint : EndpointRecord) (id : ℕ) (answer : Result Move TableFault)
      → ((s : DriverTable) → TableStands old s → answer ≡ (replying s endpoint id).0)
      → LeavesAs old (λ s. replying s endpoint id) answer new
      → OnErr answer (new ≡ old)
      → (u : DriverTable) × TableStep t (Reply endpoint id) (one_move answer) u × TableStands new u
  reply_step endpoint id (Ok step) answers leaves same = (
    (replying t endpoint id).1,
    record {
      answer_is = one_answer (replying t endpoint id).0 (Ok step) (answers t stands);
      after =
          refl;
      unchanged = tt;
    },
    leaves t stands,
  )
  reply_step endpoint id (Err fault) answers leaves same = (
    t,
    record {
      answer_is =
          one_answer (replying t endpoint id).0 (Err fault)
          (same_answer (replying t endpoint id).0 (Err fault) (answers t stands) (never_wants t endpoint id));
      after = tt;
      unchanged = refl;
    },
    subst (λ (v : TableRecord). TableStands v t) (sym same) stands,
  )
