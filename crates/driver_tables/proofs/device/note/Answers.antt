use Rattle.std.proofs.Common.{◌≡◌, ℕ, List, Some, length, cond, ap, sym, ◌∙◌, arith, Bool}
use Rattle.std.specs.List.{slice_get}
use Rattle.indexmap.specs.IndexMap.{set_value_at}
use Rattle.driver_tables.specs.declared.device.Device.{Device}
use Rattle.driver_tables.specs.Devices.{noted, device_with}
use Rattle.driver_tables.proofs.ListLemmas.{half, half_get, half_set, half_next, half_all, length-half}
use Rattle.driver_tables.proofs.device.note.Goals as goal
use Rattle.driver_tables.proofs.device.note.Goals.{then-eq, else-eq}

pub unit_at-requires : goal.unit_at-requires
unit_at-requires c =
    let same : length c.loop-i.devices.entries ≡ length c.args.devices.now.entries =
    ap length c.loop-i.invariant ∙ length-half (noted c.args.label.now c.args.state.now) c.loop-i.i c.args.devices.now.entries in
    let end = c.len-i-end.ensures.len in
    omega arith

pub index_mut-requires : goal.index_mut-requires
index_mut-requires c =
    let same : length c.loop-i.devices.entries ≡ length c.args.devices.now.entries =
    ap length c.loop-i.invariant ∙ length-half (noted c.args.label.now c.args.state.now) c.loop-i.i c.args.devices.now.entries in
    let end = c.len-i-end.ensures.len in
    omega arith

pub loop-i-preserved : goal.loop-i-preserved
loop-i-preserved c =
    let f = noted c.args.label.now c.args.state.now in
    let all = c.args.devices.now.entries in
    let i = c.loop-i.i in
    let u : ℕ × Device = (c.unit_at.result.0, c.unit_at.result.1.now) in
    let there : slice_get all i ≡ Some u = sym (half_get f i all) ∙
    (ap (λ (l : List (ℕ × Device)). slice_get l i) (sym c.loop-i.invariant) ∙ c.unit_at.ensures) in
    elim c.if-eq.branch [
      | then-eq w ↦
          (let same : f u ≡ (u.0, w.with_state.result) =
          ap (λ (b : Bool). (u.0, cond b (device_with c.args.state.now u.1) u.1)) (sym c.eq.ensures ∙ w.if-eq.true) ∙
          ap (λ (d : Device). (u.0, d)) (sym w.with_state.ensures) in
          ap (λ m. m.entries) w.devices-is ∙ (ap (λ (l : List (ℕ × Device)). set_value_at l i w.with_state.result) c.loop-i.invariant ∙
          half_set f i all u.0 u.1 w.with_state.result there same))
      | else-eq w ↦
          (let same : f u ≡ u = ap (λ (b : Bool). (u.0, cond b (device_with c.args.state.now u.1) u.1))
          (sym c.eq.ensures ∙ w.if-eq.false) in
          ap (λ m. m.entries) w.devices-is ∙ (c.loop-i.invariant ∙ half_next f i all u there same))
    ]

pub returns : goal.returns
returns c =
    let f = noted c.args.label.now c.args.state.now in
    let all = c.args.devices.now.entries in
    let end = c.len-i-end.ensures.len in
    let i : c.loop-i.i ≡ length all = omega arith in
    c.loop-i.invariant ∙ (ap (λ (k : ℕ). half f k all) i ∙ half_all f all)
