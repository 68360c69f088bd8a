use Rattle.std.proofs.Common.{◌≡◌, ◌≤◌, List, length, ap, ◌∙◌, subst, arith, rules}
use Rattle.std.specs.List.{insert}
use Rattle.ds_index.specs.declared.named.Named.{Named}
use Rattle.ds_index.specs.Named.{IsLabelPlace}
use Rattle.ds_index.proofs.NamedLemmas.{inserted_there}
use Rattle.ds_index.proofs.index.add.Goals as goal

pub returns-clause-listed : goal.returns-clause-listed
returns-clause-listed c =
    let there : c.insert.new.self.items ≡ insert c.args.names.now.items c.place_of-place.result c.args.named = search rules in
    let bound : c.place_of-place.result ≤ length c.args.names.now.items =
    omega (arith, c.place_of-place.ensures.bound, ap (λ (l : List Named). length l) c.deref.ensures.value) in
    there ∙ inserted_there c.args.named c.args.names.now.items c.place_of-place.result bound
    (subst (λ (l : List Named). IsLabelPlace c.args.named l c.place_of-place.result) c.deref.ensures.value c.place_of-place.ensures.place)

pub returns-clause-bound : goal.returns-clause-bound
returns-clause-bound c =
    omega (arith, c.place_of-place.ensures.bound, ap (λ (l : List Named). length l) c.deref.ensures.value, c.args.names.now.ok.0)
