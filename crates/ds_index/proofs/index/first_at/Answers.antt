use Rattle.std.proofs.Common.{◌≡◌, ◌-◌, Some, false, true, sym, ◌∙◌, ap, arith}
use Rattle.std.specs.Prelude.{slice_get}
use Rattle.std.specs.Option.{option_copied}
use Rattle.std.proofs.lemmas.Bool.{not-true}
use Rattle.ds_index.specs.Named.{holds_endpoint}
use Rattle.ds_index.proofs.NamedLemmas.{passes_nth, first_at_front, first_after_other}
use Rattle.ds_index.proofs.index.first_at.Goals as goal
use Rattle.ds_index.proofs.index.first_at.Goals.{then-index-eq0, else-index-eq0}

pub returns-then-not-is_of_nth : goal.returns-then-not-is_of_nth
returns-then-not-is_of_nth c =
    let e = c.args.endpoint in
    let xs = c.args.names.now in
    let p = c.in_ok-named.named.now in
    let here : slice_get xs c.args.index ≡ Some p = sym c.nth.ensures ∙ ap option_copied c.in_ok-named.was in
    let of : holds_endpoint e p ≡ true = sym c.is_of.ensures ∙ c.if-is_of.true in
    elim c.if-index-eq0.branch [
      | then-index-eq0 w ↦ first_at_front e xs c.requires p of c.args.index (omega (arith, w.if-index-eq0.true)) here
      | else-index-eq0 w ↦
          (let other : passes_nth (holds_endpoint e) xs (c.args.index - 1) ≡ false =
          sym w.is_of_nth.ensures ∙ not-true w.is_of_nth.result (sym w.value-is ∙ c.if-not-is_of_nth.true) in
          first_after_other e xs c.requires p of c.args.index (c.args.index - 1) (omega (arith, w.if-index-eq0.false)) here other)
    ]
