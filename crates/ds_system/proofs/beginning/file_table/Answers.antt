use Rattle.std.proofs.Common.{◌≡◌, ℕ, ◌≤◌, List, length, take, Some, sym, subst}
use Rattle.std.specs.List.{slice_get, filter_map}
use Rattle.std.specs.Option.{option_copied}
use Rattle.std.proofs.lemmas.List.{take_all}
use Rattle.rs_settings.specs.declared.service.Service.{Service}
use Rattle.driver_tables.specs.Driver.{Driver}
use Rattle.driver_tables.specs.Stands.{TableStands}
use Rattle.ds_system.specs.Start.{file_unit, assigned_all}
use Rattle.ds_system.proofs.ServeLemmas.{taken_by}
use Rattle.ds_system.proofs.beginning.file_table.Goals as goal

pub loop-index-init : goal.loop-index-init
loop-index-init c = c.new-table.ensures

pub loop-index-preserved : goal.loop-index-preserved
loop-index-preserved c =
    let xs = c.args.settings.now.services in
    let i = c.loop-index.index in
    let x = c.in-Some.service.now in
    let same = c.services-services.ensures.value in
    let at : slice_get xs i ≡ Some x = subst (λ (l : List Service). slice_get l i ≡ Some x) same
    (sym (subst (λ o. option_copied o ≡ slice_get c.services-services.result.now i) c.in-Some.is c.get.ensures)) in
    subst (λ (l : List (ℕ × Driver)). TableStands c.add_file.new.table (assigned_all l)) (sym (taken_by file_unit xs i x at))
    (c.in-Ok.ensures (filter_map file_unit (take i xs)) c.loop-index.invariant)

pub returns : goal.returns
returns c =
    let xs = c.args.settings.now.services in
    let end : length xs ≤ c.loop-index.index =
    subst (λ (l : List Service). length l ≤ c.loop-index.index) c.services-services.ensures.value
    (subst (λ (n : ℕ). n ≤ c.loop-index.index) c.len-index-end.ensures c.loop-index-test.false) in
    subst (λ (l : List Service). TableStands c.loop-index.table (assigned_all (filter_map file_unit l)))
    (take_all c.loop-index.index xs end) c.loop-index.invariant
