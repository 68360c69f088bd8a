use Rattle.std.proofs.Common.{cond, Some, None, sym, ap, ◌∙◌}
use Rattle.std.specs.Option.{option_copied}
use Rattle.ds_index.proofs.NamedLemmas.{first_by_begin, if_of}
use Rattle.ds_index.proofs.index.search.Goals as goal

pub returns-then-is_of : goal.returns-then-is_of
returns-then-is_of c =
    sym (ap (λ b. cond b (Some c.in-Some.named.now) None) (sym c.is_of.ensures ∙ c.if-is_of.true))
    ∙ ap (if_of c.args.endpoint) (sym (ap option_copied c.in-Some.is))
    ∙ first_by_begin c.args.endpoint c.args.names.now c.begin_of.result (option_copied c.nth.result) c.requires c.begin_of.ensures
    c.nth.ensures

pub returns-else-is_of : goal.returns-else-is_of
returns-else-is_of c =
    sym (ap (λ b. cond b (Some c.in-Some.named.now) None) (sym c.is_of.ensures ∙ c.if-is_of.false))
    ∙ ap (if_of c.args.endpoint) (sym (ap option_copied c.in-Some.is))
    ∙ first_by_begin c.args.endpoint c.args.names.now c.begin_of.result (option_copied c.nth.result) c.requires c.begin_of.ensures
    c.nth.ensures

pub returns-in-None : goal.returns-in-None
returns-in-None c =
    ap (if_of c.args.endpoint) (sym (ap option_copied c.in-None.is))
    ∙ first_by_begin c.args.endpoint c.args.names.now c.begin_of.result (option_copied c.nth.result) c.requires c.begin_of.ensures
    c.nth.ensures
