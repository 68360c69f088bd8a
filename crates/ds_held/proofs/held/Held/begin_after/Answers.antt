use Rattle.std.proofs.Common.{◌≡◌, ◌≤◌, drop, filter, sym, ap, ◌∙◌, subst}
use Rattle.std.specs.Option.{option_copied}
use Rattle.ds_join.specs.Reading.{comes_after}
use Rattle.ds_held.specs.Held.{Holding, held_changes, held_count}
use Rattle.ds_held.proofs.KeptLemmas.{changes_are, count_changes}
use Rattle.ds_held.proofs.held.Held.begin_after.Goals as goal

pub returns-clause-within : goal.returns-clause-within
returns-clause-within c = subst (λ n. c.begin_after.result ≤ n)
    (sym (count_changes c.self.inside.changes c.self.invariant.keys) ∙ ap held_count c.self.view_is) c.begin_after.ensures.within

pub returns-clause-begin : goal.returns-clause-begin
returns-clause-begin c =
    subst (λ (h : Holding). drop c.begin_after.result (held_changes h) ≡ filter (comes_after (option_copied c.args.after))
    (held_changes h)) c.self.view_is
    (subst (λ l. drop c.begin_after.result l ≡ filter (comes_after (option_copied c.args.after)) l)
    (sym (changes_are c.self.inside.floors.items c.self.inside.changes c.self.inside.limits c.self.invariant.keys))
    c.begin_after.ensures.begin)
