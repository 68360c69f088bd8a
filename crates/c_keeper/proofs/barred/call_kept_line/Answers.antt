use Rattle.std.proofs.Common.{inl, inr, refl, ◌∙◌}
use Rattle.c_keeper.proofs.barred.call_kept_line.Goals as goal

-- the answer has the place
pub returns-in-Err-BadLine : goal.returns-in-Err-BadLine
returns-in-Err-BadLine c =
    let told = c.rest.ensures.told_is ∙ c.bad_line.ensures in
    let place-is = c.in-Err-BadLine.place-is in
    inr (inl (
      c.in-Err-BadLine.place,
      rw c.in-Err-BadLine.field-0-is at c.in-Err-BadLine.ensures,
      record { done = record { told_is = cc; node_is = c.rest.ensures.node_is; kept = c.rest.ensures.kept }; told = refl },
    ))
