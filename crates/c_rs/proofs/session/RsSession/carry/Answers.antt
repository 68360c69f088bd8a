use Rattle.std.proofs.Common.{◌∙◌}
use Rattle.c_rs.proofs.LinesLemmas.{lent_some, with_rs}
use Rattle.c_rs.proofs.session.RsSession.carry.Goals as goal

pub returns : goal.returns
returns c =
    with_rs c.args.self.now.session.node.services c.is_none.result c.args.command c.args.self.now c.carry_with_rs.new.answer
    c.carry_with_rs.new.self
    (lent_some c.services.result c.args.self.now.session.node.services c.services.ensures ∙ c.is_none.ensures) c.if-is_none.false
    c.carry_with_rs.ensures
