use Rattle.std.proofs.Common.{sym, subst}
use Rattle.std.specs.List.{AllByRecursion}
use Rattle.c_desk.specs.Fresh.{IsFreshPass}
use Rattle.c_desk.proofs.FreshLemmas.{all_fresh}
use Rattle.c_desk.proofs.board.Board.open.Goals as goal

pub of-requires : goal.of-requires
of-requires c =
    subst (λ ps. AllByRecursion (IsFreshPass c.in-Ok-open.desk) ps) (sym c.into_vec.ensures)
    (all_fresh c.in-Ok-open.desk c.in-Ok.store 0 c.in-Ok-open.ensures.desk.0 c.in-Ok-open.ensures.desk.2 c.args.seats _
    c.in-Ok-open.ensures.passes.0)
