use Rattle.std.proofs.Common.{◌≢◌, ◌++◌, [], List, ap, ◌∙◌, rules}
use Rattle.std.specs.List.{filter_map}
use Rattle.driver_tables.specs.declared.moves.Move.{Move}
use Rattle.driver_tables.specs.Devices.{start_move}
use Rattle.driver_tables.specs.Requests.{all_settled_in, moves_in}
use Rattle.driver_tables.proofs.ListLemmas.{either_part, second_part}
use Rattle.driver_tables.proofs.table.moves_of.Goals as goal

pub returns-in_err-add_starts-clause-room : goal.returns-in_err-add_starts-clause-room
returns-in_err-add_starts-clause-room c =
    let some : moves_in c.args.devices.now.entries c.args.pending.now.items c.args.label.now c.args.state.now ≢ [] =
    either_part _ _ c.in_err-add_starts.ensures.room in
    search rules

pub returns-in_err-add_settled-clause-room : goal.returns-in_err-add_settled-clause-room
returns-in_err-add_settled-clause-room c =
    let starts = filter_map (start_move c.args.label.now c.args.state.now) c.args.devices.now.entries in
    let some : moves_in c.args.devices.now.entries c.args.pending.now.items c.args.label.now c.args.state.now ≢ [] =
    second_part starts _ c.in_err-add_settled.ensures.room in
    search rules

pub returns-clause-all : goal.returns-clause-all
returns-clause-all c =
    let starts = filter_map (start_move c.args.label.now c.args.state.now) c.args.devices.now.entries in
    let rest = all_settled_in c.args.devices.now.entries c.args.label.now c.args.state.now c.args.pending.now.items in
    c.in_ok-add_settled.ensures.added ∙ ap (λ (l : List Move). l ++ rest)
    (c.in_ok-add_starts.ensures.added ∙ ap (λ (l : List Move). l ++ starts) c.new-moves.ensures)
