use Rattle.std.proofs.Common.{◌≡◌, ◌≤◌, ◌++◌, ◌∷◌, [], length, Err, refl, sym, ◌∙◌, subst, arith, rules}
use Rattle.ds_held.specs.Held.{held_items}
use Rattle.driver_tables.specs.declared.fault.TableFault.{TableFault}
use Rattle.driver_tables.specs.declared.fault.TableFault.TheVariants.{NoRoom}
use Rattle.driver_tables.specs.Answer.{IsAnswer}
use Rattle.driver_tables.specs.Changed.{changing}
use Rattle.rs_to_store.proofs.FollowLemmas.{walk_begins, walk_ends, none_there, nothing_told, old_told, old_passed, state_taken, wants_room}
use Rattle.rs_to_store.proofs.FollowLemmas.{refused}
use Rattle.rs_to_store.proofs.following.follow.Goals as goal
use Rattle.rs_to_store.proofs.following.follow.Goals.{then-len-capacity+else-is_old+else-is_err, else-len-capacity}

pub loop-index-init : goal.loop-index-init
loop-index-init g c =
    record {
      walked = walk_begins (held_items c.args.map.now.held) (g.T.Drivers.kept c.args.table.now) c.args.rounds.now.items;
      count =
          c.unit_count-index-end.ensures;
    }

pub returns : goal.returns
returns g c t st =
    let held = held_items c.args.map.now.held in
    let w = c.loop-index.invariant.walked t st in
    let many : c.unit_count-index-end.result ≡ length t.units = c.loop-index.invariant.count t st in
    let end : c.unit_count-index-end.result ≤ c.loop-index.index = c.loop-index-test.false in
    walk_ends held t c.args.rounds.now.items c.loop-index.index (g.T.Drivers.kept c.loop-index.table) c.loop-index.rounds.items w
    (omega (arith, many, end))

pub returns-in_default : goal.returns-in_default
returns-in_default g c t st =
    let held = held_items c.args.map.now.held in
    let now = g.T.Drivers.kept c.loop-index.table in
    let w = c.loop-index.invariant.walked t st in
    walk_ends held t c.args.rounds.now.items c.loop-index.index now c.loop-index.rounds.items w
    (none_there held t c.args.rounds.now.items c.loop-index.index now c.loop-index.rounds.items w
    (sym c.in_default.is ∙ c.label_at.ensures w.at w.stands))

pub loop-index-preserved-in_default-told : goal.loop-index-preserved-in_default-told
loop-index-preserved-in_default-told g c = record {
  walked = λ t st.
      let held = held_items c.args.map.now.held in
      let w = c.loop-index.invariant.walked t st in
      nothing_told held t c.args.rounds.now.items c.loop-index.index (g.T.Drivers.kept c.loop-index.table) c.loop-index.rounds.items w
      c.in-Some.label (sym c.in-Some.is ∙ c.label_at.ensures w.at w.stands)
      c.told.result (c.told.ensures w.at w.stands) c.in_default-told.is;
  count = c.loop-index.invariant.count;
}

pub loop-index-preserved-then-is_old : goal.loop-index-preserved-then-is_old
loop-index-preserved-then-is_old g c = record {
  walked = λ t st.
      let held = held_items c.args.map.now.held in
      let w = c.loop-index.invariant.walked t st in
      old_told held t c.args.rounds.now.items c.loop-index.index (g.T.Drivers.kept c.loop-index.table) c.loop-index.rounds.items w
      c.in-Some.label (sym c.in-Some.is ∙ c.label_at.ensures w.at w.stands)
      c.told.result (c.told.ensures w.at w.stands) c.in-Some-told.state c.in-Some-told.is
      (sym c.if-is_old.true ∙ c.is_old.ensures w.at w.stands);
  count = c.loop-index.invariant.count;
}

pub returns-then-is_err : goal.returns-then-is_err
returns-then-is_err g c t st =
    let held = held_items c.args.map.now.held in
    let now = g.T.Drivers.kept c.loop-index.table in
    let w = c.loop-index.invariant.walked t st in
    wants_room held t c.args.rounds.now.items c.loop-index.index now c.loop-index.rounds.items w c.in-Some.label
    (sym c.in-Some.is ∙ c.label_at.ensures w.at w.stands)
    c.told.result (c.told.ensures w.at w.stands) c.in-Some-told.state c.in-Some-told.is
    (sym c.if-is_old.false ∙ c.is_old.ensures w.at w.stands) now c.reserve.new.self.items NoRoom refl c.reserve.ensures.items refl

pub loop-index-preserved-in-Err-OldEndpoint : goal.loop-index-preserved-in-Err-OldEndpoint
loop-index-preserved-in-Err-OldEndpoint g c = record {
  walked = λ t st.
      let held = held_items c.args.map.now.held in
      let w = c.loop-index.invariant.walked t st in
      let room : c.if-len-capacity.rounds.items ≡ c.loop-index.rounds.items = elim c.if-len-capacity.branch [
        | then-len-capacity+else-is_old+else-is_err w ↦ (let is = w.rounds-is in let items = w.reserve.ensures.items in cc)
        | else-len-capacity w ↦ (let is = w.rounds-is in cc)
      ] in
      old_passed held t c.args.rounds.now.items c.loop-index.index (g.T.Drivers.kept c.loop-index.table) c.loop-index.rounds.items w
      c.in-Some.label (sym c.in-Some.is ∙ c.label_at.ensures w.at w.stands)
      c.told.result (c.told.ensures w.at w.stands) c.in-Some-told.state c.in-Some-told.is
      (g.T.Drivers.kept c.changed.new.self) c.if-len-capacity.rounds.items c.in-Err-OldEndpoint.ensures.unchanged room
      (subst (λ (f : TableFault). IsAnswer (changing w.at c.in-Some.label c.in-Some-told.state).0 (Err f)) c.in-Err-OldEndpoint.field-0-is
      (c.in-Err-OldEndpoint.ensures.answer w.at w.stands));
  count = c.loop-index.invariant.count;
}

pub returns-in-Err : goal.returns-in-Err
returns-in-Err g c t st =
    let held = held_items c.args.map.now.held in
    let now = g.T.Drivers.kept c.loop-index.table in
    let w = c.loop-index.invariant.walked t st in
    let room : c.if-len-capacity.rounds.items ≡ c.loop-index.rounds.items = elim c.if-len-capacity.branch [
      | then-len-capacity+else-is_old+else-is_err w ↦ (let is = w.rounds-is in let items = w.reserve.ensures.items in cc)
      | else-len-capacity w ↦ (let is = w.rounds-is in cc)
    ] in
    refused held t c.args.rounds.now.items c.loop-index.index now c.loop-index.rounds.items w c.in-Some.label
    (sym c.in-Some.is ∙ c.label_at.ensures w.at w.stands)
    c.told.result (c.told.ensures w.at w.stands) c.in-Some-told.state c.in-Some-told.is
    (g.T.Drivers.kept c.changed.new.self) c.if-len-capacity.rounds.items c.in-Err.fault c.in-Err.ensures.unchanged room
    (search rules) (c.in-Err.ensures.answer w.at w.stands)

pub loop-index-preserved : goal.loop-index-preserved
loop-index-preserved g c = record {
  walked = λ t st.
      let held = held_items c.args.map.now.held in
      let w = c.loop-index.invariant.walked t st in
      let room : c.if-len-capacity.rounds.items ≡ c.loop-index.rounds.items = elim c.if-len-capacity.branch [
        | then-len-capacity+else-is_old+else-is_err w ↦ (let is = w.rounds-is in let items = w.reserve.ensures.items in cc)
        | else-len-capacity w ↦ (let is = w.rounds-is in cc)
      ] in
      let more : c.push_reserved.new.self.items ≡ c.loop-index.rounds.items ++ c.in-Ok.moves ∷ [] =
      (let pushed = c.push_reserved.ensures.items in cc) in
      state_taken held t c.args.rounds.now.items c.loop-index.index (g.T.Drivers.kept c.loop-index.table) c.loop-index.rounds.items w
      c.in-Some.label (sym c.in-Some.is ∙ c.label_at.ensures w.at w.stands)
      c.told.result (c.told.ensures w.at w.stands) c.in-Some-told.state c.in-Some-told.is
      c.in-Ok.moves (g.T.Drivers.kept c.changed.new.self) c.push_reserved.new.self.items (c.in-Ok.ensures.answer w.at w.stands)
      (c.in-Ok.ensures.after w.at w.stands) more;
  count = c.loop-index.invariant.count;
}
