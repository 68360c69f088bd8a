use Rattle.std.proofs.Common.{arith, ◌+◌, suc, ◌∙◌, ap, ◌≡◌}
use Rattle.desk_rule.specs.Passes.{fresh}
use Rattle.desk_rule.proofs.SeatLemmas.{pass_splits}
use Rattle.desk_rule.proofs.seat.split_pass.Goals as goal

pub split_seat-requires : goal.split_seat-requires
split_seat-requires g c = let at = c.requires.at in let n = c.requires.fresh in let e : n.0 + 2 ≡ suc (n.0 + 1) = omega arith in
    (at.0, omega arith, pass_splits _ _ _ _ _ _ (n.0 + 1) c.args.seat.now.me.0 (n.1 ∙ ap fresh e) (omega arith) c.requires.resting)
