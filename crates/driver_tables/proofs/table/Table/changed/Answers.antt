use Rattle.std.proofs.Common.{◌≡◌, ◌≢◌, [], List, true, false, Ok, refl, ap, sym, ◌∙◌, subst, rules}
use Rattle.std.specs.Option.{option_copied}
use Rattle.driver_tables.specs.declared.moves.Move.{Move}
use Rattle.driver_tables.specs.Changed.{changing, all_moves}
use Rattle.driver_tables.specs.Room.{HasMoves}
use Rattle.driver_tables.specs.Stands.{TableRecord, TableStands}
use Rattle.driver_tables.specs.Value.{table_of}
use Rattle.driver_tables.proofs.StandsLemmas.{first_device}
use Rattle.driver_tables.proofs.ChangeLemmas.{change_nothing, change_judged, not_old, new_state, moves_are, stands_moved, stands_noted}
use Rattle.driver_tables.proofs.table.Table.changed.Goals as goal

pub returns-in_default-clause-answer : goal.returns-in_default-clause-answer
returns-in_default-clause-answer c = λ t s.
    let v = table_of c.self.inside in
    let here : TableStands v t = subst (λ (v : TableRecord). TableStands v t) (sym c.self.view_is) s in
    ap (λ (l : List Move). Ok l) c.new.ensures ∙
    sym (ap (λ p. p.0) (change_nothing v t c.args.label.now c.args.state.now here
    (sym c.first_of.ensures ∙ ap option_copied c.in_default.is)))

pub returns-in_default-clause-after : goal.returns-in_default-clause-after
returns-in_default-clause-after c = λ t s.
    let v = table_of c.self.inside in
    let here : TableStands v t = subst (λ (v : TableRecord). TableStands v t) (sym c.self.view_is) s in
    subst (TableStands c.args.self.now) (sym (ap (λ p. p.1)
    (change_nothing v t c.args.label.now c.args.state.now here (sym c.first_of.ensures ∙ ap option_copied c.in_default.is)))) s

pub returns-then-is_old-clause-answer : goal.returns-then-is_old-clause-answer
returns-then-is_old-clause-answer c = λ t s.
    let v = table_of c.self.inside in
    let here : TableStands v t = subst (λ (v : TableRecord). TableStands v t) (sym c.self.view_is) s in
    sym (ap (λ p. p.0) (change_judged v t c.args.label.now c.args.state.now c.in-Some.device.now true _ here
    (sym c.first_of.ensures ∙ ap option_copied c.in-Some.is) (sym c.is_old.ensures ∙ c.if-is_old.true) refl))

pub returns-then-is_same_state-clause-answer : goal.returns-then-is_same_state-clause-answer
returns-then-is_same_state-clause-answer c = λ t s.
    let v = table_of c.self.inside in
    let here : TableStands v t = subst (λ (v : TableRecord). TableStands v t) (sym c.self.view_is) s in
    ap (λ (l : List Move). Ok l) c.new-then-is_same_state.ensures
    ∙ sym (ap (λ p. p.0) (change_judged v t c.args.label.now c.args.state.now c.in-Some.device.now false true here
    (sym c.first_of.ensures ∙ ap option_copied c.in-Some.is)
    (sym c.is_old.ensures ∙ c.if-is_old.false) (sym c.is_same_state.ensures ∙ c.if-is_same_state.true)))

pub returns-then-is_same_state-clause-after : goal.returns-then-is_same_state-clause-after
returns-then-is_same_state-clause-after c = λ t s.
    let v = table_of c.self.inside in
    let here : TableStands v t = subst (λ (v : TableRecord). TableStands v t) (sym c.self.view_is) s in
    let first = sym c.first_of.ensures ∙ ap option_copied c.in-Some.is in
    let old = sym c.is_old.ensures ∙ c.if-is_old.false in
    let same = sym c.is_same_state.ensures ∙ c.if-is_same_state.true in
    let device = c.in-Some.device.now in
    let still : TableStands v (changing t c.args.label.now c.args.state.now).1 =
    subst (TableStands v) (sym (ap (λ p. p.1) (change_judged v t c.args.label.now c.args.state.now device false true here first old same)))
    (stands_noted v t c.args.label.now c.args.state.now here (first_device v t c.args.label.now device here first).0
    (not_old v t c.args.label.now c.args.state.now device here first old)
    (new_state v t c.args.label.now c.args.state.now device true here first same)) in
    subst (λ (v : TableRecord). TableStands v (changing t c.args.label.now c.args.state.now).1) c.self.view_is still

pub returns-in_default-moves_of-clause-answer : goal.returns-in_default-moves_of-clause-answer
returns-in_default-moves_of-clause-answer c = λ t s.
    let v = table_of c.self.inside in
    let here : TableStands v t = subst (λ (v : TableRecord). TableStands v t) (sym c.self.view_is) s in
    let k : (a : List Move) × ((changing t c.args.label.now c.args.state.now).0 ≡ Ok a) = (
      _,
      ap (λ p. p.0) (change_judged v t c.args.label.now c.args.state.now c.in-Some.device.now false false here
          (sym c.first_of.ensures ∙ ap option_copied c.in-Some.is)
          (sym c.is_old.ensures ∙ c.if-is_old.false) (sym c.is_same_state.ensures ∙ c.if-is_same_state.false)),
    ) in
    search rules

pub returns-in_default-moves_of-clause-room : goal.returns-in_default-moves_of-clause-room
returns-in_default-moves_of-clause-room c = λ t s.
    let v = table_of c.self.inside in
    let here : TableStands v t = subst (λ (v : TableRecord). TableStands v t) (sym c.self.view_is) s in
    let some : all_moves t c.args.label.now c.args.state.now ≢ [] =
    subst (λ (l : List Move). l ≢ []) (moves_are v t c.args.label.now c.args.state.now here) c.in_default-moves_of.ensures.room in
    let is_so = ap (λ p. p.0) (change_judged v t c.args.label.now c.args.state.now c.in-Some.device.now false false here
    (sym c.first_of.ensures ∙ ap option_copied c.in-Some.is)
    (sym c.is_old.ensures ∙ c.if-is_old.false) (sym c.is_same_state.ensures ∙ c.if-is_same_state.false)) in
    let takes : HasMoves (changing t c.args.label.now c.args.state.now).0 = subst HasMoves (sym is_so) some in
    search rules

pub returns-clause-answer : goal.returns-clause-answer
returns-clause-answer c = λ t s.
    let v = table_of c.self.inside in
    let here : TableStands v t = subst (λ (v : TableRecord). TableStands v t) (sym c.self.view_is) s in
    let moves = c.in-Ok.ensures.all ∙ moves_are v t c.args.label.now c.args.state.now here in
    ap (λ (l : List Move). Ok l) moves
    ∙ sym (ap (λ p. p.0) (change_judged v t c.args.label.now c.args.state.now c.in-Some.device.now false false here
    (sym c.first_of.ensures ∙ ap option_copied c.in-Some.is)
    (sym c.is_old.ensures ∙ c.if-is_old.false) (sym c.is_same_state.ensures ∙ c.if-is_same_state.false)))

pub returns-clause-after : goal.returns-clause-after
returns-clause-after c = λ t s.
    let v = table_of c.self.inside in
    let here : TableStands v t = subst (λ (v : TableRecord). TableStands v t) (sym c.self.view_is) s in
    let first = sym c.first_of.ensures ∙ ap option_copied c.in-Some.is in
    let old = sym c.is_old.ensures ∙ c.if-is_old.false in
    subst (TableStands (record { devices = c.note.new.devices.entries; pending = c.settle.new.pending.items; last = v.last }))
    (sym (ap (λ p. p.1) (change_judged v t c.args.label.now c.args.state.now c.in-Some.device.now false false here first old
    (sym c.is_same_state.ensures ∙ c.if-is_same_state.false))))
    (stands_moved v t c.args.label.now c.args.state.now c.note.new.devices.entries c.settle.new.pending.items here
    (first_device v t c.args.label.now c.in-Some.device.now here first).0
    (not_old v t c.args.label.now c.args.state.now c.in-Some.device.now here first old) c.note.ensures
    c.settle.ensures)
