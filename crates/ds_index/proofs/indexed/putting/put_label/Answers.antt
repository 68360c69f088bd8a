use Rattle.std.proofs.Common.{◌≡◌, sym, ap, ◌∙◌, subst}
use Rattle.std.specs.Option.{option_map}
use Rattle.ds_names.specs.declared.key.Key.{Key}
use Rattle.ds_names.specs.Key.{label_key}
use Rattle.ds_entry.specs.Change.{ChangeRecord}
use Rattle.ds_held.specs.Held.{Holding, held_for}
use Rattle.ds_index.specs.Named.{named_at}
use Rattle.ds_index.specs.Index.{Listing}
use Rattle.ds_index.specs.Indexed.{endpoint_left, IsIndexed}
use Rattle.ds_index.proofs.HolderLemmas.{listed_is, unlisted_is}
use Rattle.ds_index.proofs.IndexedLemmas.{label_key_is, same_pair, new_indexed, over_indexed}
use Rattle.ds_index.proofs.indexed.putting.put_label.Goals as goal
use Rattle.ds_index.proofs.indexed.putting.put_label.Goals.{then-is_none+in_ok-reserve, else-is_none}

pub returns-in-Some-clause-indexed : goal.returns-in-Some-clause-indexed
returns-in-Some-clause-indexed g c =
    let old = c.args.marked.now.held in
    let change = c.args.change in
    let names : c.if-is_none.index.names ≡ c.args.index.now.names = elim c.if-is_none.branch [
      | then-is_none+in_ok-reserve w ↦ ap (λ (l : Listing). l.names) w.index-is ∙ w.reserve.ensures.names
      | else-is_none w ↦ ap (λ (l : Listing). l.names) w.index-is
    ] in
    let listed : IsIndexed old.changes c.if-is_none.index.names = subst (IsIndexed old.changes) (sym names) c.requires.indexed in
    let after = named_at c.endpoint_in.result c.key-2.result.now.name in
    let before = c.in-Some.before in
    let is = listed_is (held_for old change.key) change.key.name before
    (sym (c.listed_at-listed.ensures ∙ ap (λ (k : Key).
    option_map (λ (x : ChangeRecord). named_at (endpoint_left x) k.name) (held_for old k)) c.key.ensures.value) ∙ c.in-Some.is) in
    let own : label_key before.name ≡ change.key = ap label_key is.0 ∙ sym (label_key_is change.key c.requires.label) in
    subst (λ (h : Holding). IsIndexed h.changes c.replace.new.self.names) (sym c.in_ok-put_at.ensures.put.held)
    (over_indexed old.changes change c.if-is_none.index.names c.replace.new.self.names after listed c.requires.label
    (same_pair c.endpoint_in.ensures (ap (λ (k : Key). k.name) c.key-2.ensures.value)) before is.0
    (ap (λ (k : Key). option_map endpoint_left (held_for old k)) own ∙ is.1) c.replace.ensures)

pub returns-in-None-clause-indexed : goal.returns-in-None-clause-indexed
returns-in-None-clause-indexed g c =
    let old = c.args.marked.now.held in
    let change = c.args.change in
    let names : c.if-is_none.index.names ≡ c.args.index.now.names = elim c.if-is_none.branch [
      | then-is_none+in_ok-reserve w ↦ ap (λ (l : Listing). l.names) w.index-is ∙ w.reserve.ensures.names
      | else-is_none w ↦ ap (λ (l : Listing). l.names) w.index-is
    ] in
    let listed : IsIndexed old.changes c.if-is_none.index.names = subst (IsIndexed old.changes) (sym names) c.requires.indexed in
    let after = named_at c.endpoint_in.result c.key-2.result.now.name in
    let none = unlisted_is (held_for old change.key) change.key.name
    (sym (c.listed_at-listed.ensures ∙ ap (λ (k : Key).
    option_map (λ (x : ChangeRecord). named_at (endpoint_left x) k.name) (held_for old k)) c.key.ensures.value) ∙ c.in-None.is) in
    subst (λ (h : Holding). IsIndexed h.changes c.add.new.self.names) (sym c.in_ok-put_at.ensures.put.held)
    (new_indexed old.changes change c.if-is_none.index.names c.add.new.self.names after listed c.requires.label
    (same_pair c.endpoint_in.ensures (ap (λ (k : Key). k.name) c.key-2.ensures.value)) none c.add.ensures)
