use Rattle.std.proofs.Common.{ℕ, ap, sym, ◌∙◌}
use Rattle.std.specs.Option.{option_map}
use Rattle.driver_tables.specs.declared.device.Device.{Device}
use Rattle.driver_tables.specs.Devices.{is_of_label}
use Rattle.driver_tables.proofs.ListLemmas.{find_here, find_next}
use Rattle.driver_tables.proofs.device.first_of.Goals as goal

pub returns-then-eq : goal.returns-then-eq
returns-then-eq c =
    let u : ℕ × Device = (c.unit_at.result.0, c.unit_at.result.1.now) in
    sym (ap (option_map (λ (u : ℕ × Device). u.1))
    (find_here (is_of_label c.args.label.now) c.args.devices.now.entries c.loop-i.i u c.unit_at.ensures c.loop-i.invariant
    (sym c.eq.ensures ∙ c.if-eq.true)))

pub loop-i-preserved : goal.loop-i-preserved
loop-i-preserved c =
    let u : ℕ × Device = (c.unit_at.result.0, c.unit_at.result.1.now) in
    find_next (is_of_label c.args.label.now) c.args.devices.now.entries c.loop-i.i u c.unit_at.ensures c.loop-i.invariant
    (sym c.eq.ensures ∙ c.if-eq.false)
