use Rattle.std.proofs.Common.{◌≡◌, List, ℕ, true, refl, sym, ◌∙◌}
use Rattle.ds_names.specs.Kind.{names_kind}
use Rattle.ds_names.specs.declared.key.Key.{Key}
use Rattle.ds_pattern.specs.declared.query.Query.{Query}
use Rattle.ds_pattern.specs.Under.{is_under, query_of, matches_whole, FindsWhole}
use Rattle.ds_pattern.proofs.StarLemmas.{dot_star_matches}
use Rattle.ds_pattern.proofs.asker.Asker.admits.Goals as goal

by_name : (q : Query) (p : List ℕ) (mask : ℕ) (key : Key) → query_of p mask ≡ q → names_kind mask key.kind ≡ true →
    is_under q key ≡ matches_whole p key.name
by_name q p mask key view named = rw (← view) (rw named refl)

pub returns-then-is_dot_star-clause-under : goal.returns-then-is_dot_star-clause-under
returns-then-is_dot_star-clause-under c =
    let named : names_kind c.self.inside.kinds c.args.key.now.kind ≡ true = sym c.has.ensures ∙ c.if-has.true in
    let matches = dot_star_matches c.self.inside.pattern.now c.args.key.now.name (c.is_dot_star.ensures.0 c.if-is_dot_star.true)
    c.bytes-name.ensures.name in
    c.if-is_dot_star.true ∙ sym matches ∙ sym (by_name _ _ _ c.args.key.now c.self.view_is named)

pub returns-else-is_dot_star-clause-under : goal.returns-else-is_dot_star-clause-under
unfolding FindsWhole
returns-else-is_dot_star-clause-under c =
    let named : names_kind c.self.inside.kinds c.args.key.now.kind ≡ true = sym c.has.ensures ∙ c.if-has.true in
    c.finds.ensures.found ∙ rw c.bytes-name.ensures.value (c.self.invariant.0 _ c.bytes-name.ensures.name) ∙
    sym (by_name _ _ _ c.args.key.now c.self.view_is named)
