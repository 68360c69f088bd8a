use Rattle.desk_rule.specs.Notices.{raised_at, raised_by, taken_at, taken_by}
use Rattle.desk.proofs.OpenLemmas.{weighs_none}
use Rattle.desk_rule.proofs.WaitLemmas.{rests_facts}
use Rattle.desk.proofs.TallyLemmas.{new_rows}
use Rattle.desk.proofs.open.new_pass.Goals as goal

pub invariant_of-result-clause-raises_counted : goal.invariant_of-result-clause-raises_counted
invariant_of-result-clause-raises_counted g c =
    new_rows (raised_by c.args.seat.me.0.passes)
    (λ s b. weighs_none (raised_at s b) c.args.seat.me.0.passes (rests_facts c.args.seat.me.0 c.requires.resting).1 c.requires.none)

pub invariant_of-result-clause-takes_counted : goal.invariant_of-result-clause-takes_counted
invariant_of-result-clause-takes_counted g c =
    new_rows (taken_by c.args.seat.me.0.passes)
    (λ s b. weighs_none (taken_at s b) c.args.seat.me.0.passes (rests_facts c.args.seat.me.0 c.requires.resting).1 c.requires.none)
