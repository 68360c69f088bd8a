use Rattle.std.proofs.Common.{arith}
use Rattle.desk_rule.proofs.ListLemmas.{some_of}
use Rattle.desk_rule.proofs.NoticeLemmas.{post_allowed}
use Rattle.desk_rule.proofs.step.post.Goals as goal

pub fetch_or-requires : goal.fetch_or-requires
fetch_or-requires g c =
    let small = c.requires.server in let at = c.requires.at in let o = c.requires.owed in let m = some_of _ o.opened in (
      at.0,
      omega arith,
      post_allowed _ _ _ _ _ _ _ _ c.args.server c.args.bits o.owed m.0 c.requires.server o.eight_bits m.1 o.last o.part
          o.few,
    )
