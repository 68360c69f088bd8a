use Rattle.std.proofs.Common.{◌≢◌, ◌++◌, ℕ, [], rules, List, Option, ap, sym, ◌∙◌, append_assoc, take}
use Rattle.std.specs.List.{filter_map}
use Rattle.std.specs.Option.{option_to_list}
use Rattle.driver_tables.specs.declared.moves.Move.{Move}
use Rattle.driver_tables.specs.declared.device.Device.{Device}
use Rattle.driver_tables.specs.Devices.{start_move}
use Rattle.driver_tables.proofs.ListLemmas.{filter_map_more, filter_map_some}
use Rattle.driver_tables.proofs.device.add_starts.Goals as goal

pub loop-i-preserved : goal.loop-i-preserved
loop-i-preserved c =
    let f = start_move c.args.label.now c.args.state.now in
    let all = c.args.devices.now.entries in
    let before = filter_map f (take c.loop-i.i all) in
    let step = c.started_at.result in
    let u : ℕ × Device = (c.unit_at-unit.result.0, c.unit_at-unit.result.1.now) in
    c.in_ok-add.ensures.added ∙ (ap (λ (l : List Move). l ++ option_to_list step) c.loop-i.invariant ∙
    (append_assoc c.args.moves.now before (option_to_list step)
    ∙ ap (λ (l : List Move). c.args.moves.now ++ l)
    (ap (λ (o : Option Move). before ++ option_to_list o) c.started_at.ensures ∙
    sym (filter_map_more f all c.loop-i.i u c.unit_at-unit.ensures))))

pub returns-in_err-add-clause-room : goal.returns-in_err-add-clause-room
returns-in_err-add-clause-room c =
    let f = start_move c.args.label.now c.args.state.now in
    let u : ℕ × Device = (c.unit_at-unit.result.0, c.unit_at-unit.result.1.now) in
    let some : filter_map f c.args.devices.now.entries ≢ [] =
    filter_map_some f c.args.devices.now.entries c.loop-i.i u c.unit_at-unit.ensures
    (λ n. c.in_err-add.ensures.room (c.started_at.ensures ∙ n)) in
    search rules
