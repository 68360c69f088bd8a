use Rattle.std.proofs.Common.{◌≡◌, ◌++◌, ◌∷◌, [], List, Bool, true, false, not, cond, Some, Ok, ap, sym, ◌∙◌, subst, rules, append-nil}
use Rattle.std.specs.Option.{option_copied}
use Rattle.driver_tables.specs.declared.moves.Move.{Move}
use Rattle.driver_tables.specs.declared.device.Device.{Device}
use Rattle.driver_tables.specs.declared.request.Pending.{Pending}
use Rattle.driver_tables.specs.declared.table.Table.TheInside.{Inside}
use Rattle.driver_tables.specs.Submit.{submitted, submitting}
use Rattle.driver_tables.specs.Stands.{TableRecord, TableStands, is_above_last}
use Rattle.driver_tables.specs.Value.{table_of}
use Rattle.driver_tables.specs.Requests.{is_ending}
use Rattle.driver_tables.specs.Room.{LeavesPending}
use Rattle.driver_tables.proofs.SubmitLemmas.{submit_twice, submit_nowhere, submit_is, stands_submitted}
use Rattle.driver_tables.proofs.table.Table.submit.Goals as goal
use Rattle.driver_tables.proofs.table.Table.submit.Goals.{then-not-is_ending+in-Ok, else-not-is_ending}

pub returns-then-not-is_above-clause-answer : goal.returns-then-not-is_above-clause-answer
returns-then-not-is_above-clause-answer c = λ t s.
    let v = table_of c.self.inside in
    let here : TableStands v t = subst (λ (v : TableRecord). TableStands v t) (sym c.self.view_is) s in
    sym (ap (λ p. p.0) (submit_twice v t c.args.id c.args.unit here (sym c.is_above.ensures ∙ c.if-not-is_above.true)))

pub returns-in_default-clause-answer : goal.returns-in_default-clause-answer
returns-in_default-clause-answer c = λ t s.
    let v = table_of c.self.inside in
    let here : TableStands v t = subst (λ (v : TableRecord). TableStands v t) (sym c.self.view_is) s in
    sym (ap (λ p. p.0) (submit_nowhere v t c.args.id c.args.unit here (sym c.is_above.ensures ∙ c.if-not-is_above.false)
    (sym c.device_at.ensures ∙ ap option_copied c.in_default.is)))

pub returns-in_default-push-clause-answer : goal.returns-in_default-push-clause-answer
returns-in_default-push-clause-answer c = λ t s.
    let v = table_of c.self.inside in
    let here : TableStands v t = subst (λ (v : TableRecord). TableStands v t) (sym c.self.view_is) s in
    let k : (a : Move) × ((submitting t c.args.id c.args.unit).0 ≡ Ok a) = (
      _,
      ap (λ p. p.0) (submit_is v t c.args.id c.args.unit c.in-Some.device.now here (sym c.is_above.ensures ∙ c.if-not-is_above.false)
          (sym c.device_at.ensures ∙ ap option_copied c.in-Some.is)),
    ) in
    search rules

pub returns-in_default-push-clause-room : goal.returns-in_default-push-clause-room
returns-in_default-push-clause-room c = λ t s.
    let v = table_of c.self.inside in
    let here : TableStands v t = subst (λ (v : TableRecord). TableStands v t) (sym c.self.view_is) s in
    let d : Device = c.in-Some.device.now in
    let ends : is_ending (submitted d.class c.args.id d.endpoint) ≡ false =
    sym (c.is_ending.ensures ∙ ap is_ending c.submitted-step.ensures) ∙ c.if-not-is_ending.true in
    let is_so = ap (λ p. p.0) (submit_is v t c.args.id c.args.unit d here (sym c.is_above.ensures ∙ c.if-not-is_above.false)
    (sym c.device_at.ensures ∙ ap option_copied c.in-Some.is)) in
    let takes : LeavesPending (submitting t c.args.id c.args.unit).0 = subst LeavesPending (sym is_so) ends in
    search rules

pub returns-clause-answer : goal.returns-clause-answer
returns-clause-answer c = λ t s.
    let v = table_of c.self.inside in
    let here : TableStands v t = subst (λ (v : TableRecord). TableStands v t) (sym c.self.view_is) s in
    ap (λ (m : Move). Ok m) c.submitted-step.ensures
    ∙ sym (ap (λ p. p.0) (submit_is v t c.args.id c.args.unit c.in-Some.device.now here (sym c.is_above.ensures ∙ c.if-not-is_above.false)
    (sym c.device_at.ensures ∙ ap option_copied c.in-Some.is)))

pub returns-clause-after : goal.returns-clause-after
returns-clause-after c = λ t s.
    let v = table_of c.self.inside in
    let here : TableStands v t = subst (λ (v : TableRecord). TableStands v t) (sym c.self.view_is) s in
    let above : is_above_last v.last c.args.id ≡ true = sym c.is_above.ensures ∙ c.if-not-is_above.false in
    let found = sym c.device_at.ensures ∙ ap option_copied c.in-Some.is in
    let d : Device = c.in-Some.device.now in
    let p : Pending = record { id = c.args.id; unit = c.args.unit; sent = d.endpoint } in
    let ends : c.is_ending.result ≡ is_ending (submitted d.class c.args.id d.endpoint) =
    c.is_ending.ensures ∙ ap is_ending c.submitted-step.ensures in
    let after : (new : List Pending) → new ≡ v.pending ++ cond (not c.is_ending.result) (p ∷ []) [] →
    TableStands (record { devices = v.devices; pending = new; last = Some c.args.id }) (submitting t c.args.id c.args.unit).1 =
    λ new e. stands_submitted v t c.args.id c.args.unit d new here above found
    (e ∙ ap (λ (b : Bool). v.pending ++ cond (not b) (p ∷ []) []) ends) in
    let at = λ (i : Inside). TableStands (record { devices = i.devices.entries; pending = i.pending.items; last = Some c.args.id })
    (submitting t c.args.id c.args.unit).1 in
    elim c.if-not-is_ending.branch [
      | then-not-is_ending+in-Ok w ↦ subst at (sym w.self-inside-is)
          (after w.push.new.self.items (w.in-Ok.ensures.items ∙
          ap (λ (b : Bool). v.pending ++ cond (not b) (p ∷ []) []) (sym w.if-not-is_ending.true)))
      | else-not-is_ending w ↦ subst at (sym w.self-inside-is)
          (after v.pending (sym (append-nil v.pending) ∙
          ap (λ (b : Bool). v.pending ++ cond (not b) (p ∷ []) []) (sym w.if-not-is_ending.false)))
    ]
