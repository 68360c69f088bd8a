use Rattle.std.proofs.Common.{◌≡◌, true, false, sym, ap, ◌∙◌}
use Rattle.ds_names.specs.declared.key.Key.{Key}
use Rattle.ds_names.specs.Kind.{is_label}
use Rattle.ds_index.proofs.HolderLemmas.{other_put}
use Rattle.ds_index.proofs.indexed.putting.put_indexed.Goals as goal

pub returns-else-is_label-clause-indexed : goal.returns-else-is_label-clause-indexed
returns-else-is_label-clause-indexed g c =
    other_put c.args.marked.now c.put_at.new.self c.args.change c.args.mark c.put_at.result c.args.index.now.names c.requires.indexed
    (λ e. let yes : true ≡ false = ap is_label (sym (ap (λ (k : Key). k.kind) c.key-key.ensures.value ∙ e)) ∙
    sym c.is_label.ensures.value ∙ c.if-is_label.false in absurd (cc))
    c.put_at.ensures.put c.put_at.ensures.same
