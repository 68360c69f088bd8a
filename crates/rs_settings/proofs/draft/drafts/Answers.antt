use Rattle.std.proofs.Common.{◌≡◌, ◌+◌, ◌∷◌, ◌++◌, [], List, ℕ, Ok, Err, get_or, drop, length, map, sym, subst, ◌∙◌, arith}
use Rattle.toml.specs.View.{view, items_view}
use Rattle.toml.specs.Data.{as_table}
use Rattle.toml.specs.declared.value.Value.{Value}
use Rattle.rs_settings.specs.declared.service.Service.{Service}
use Rattle.rs_settings.specs.Service.{services_in, service_from}
use Rattle.rs_settings.specs.Settings.{IsService}
use Rattle.rs_settings.specs.Draft.{service_of_draft}
use Rattle.rs_settings.proofs.TableLemmas.{services_in-more, services_in-fault, each-last, length-last, map-last}
use Rattle.rs_settings.proofs.draft.drafts.Goals as goal
use Rattle.std.proofs.lemmas.List.{length-map}

pub returns-in-Err-clause-refused : goal.returns-in-Err-clause-refused
returns-in-Err-clause-refused c =
    let vs = c.args.items.now in
    let i = c.loop-item.item-index in
    let before = map service_of_draft c.loop-item.drafts.items in
    let n : c.len.result ≡ length before = c.len.ensures.value ∙ sym (length-map c.loop-item.drafts.items service_of_draft) in
    let found : service_from c.args.format (length before) (as_table (view (get_or vs i c.item-item.result))) ≡ Err c.in-Err.fault = subst
    (λ (v : Value). service_from c.args.format (length before) (as_table (view v)) ≡ Err c.in-Err.fault) c.item-item.is
    (subst (λ (k : ℕ). service_from c.args.format k (as_table (view c.item-item.result)) ≡ Err c.in-Err.fault) n
    c.in-Err.ensures.refused) in
    services_in-fault c.args.format before vs i c.item-item.result c.in-Err.fault (services_in c.args.format [] (items_view vs))
    (omega arith) c.loop-item.invariant.read found

pub loop-item-preserved : goal.loop-item-preserved
loop-item-preserved c =
    let vs = c.args.items.now in
    let i = c.loop-item.item-index in
    let s = service_of_draft c.in-Ok.draft in
    let before = map service_of_draft c.loop-item.drafts.items in
    let n : c.len.result ≡ length before = c.len.ensures.value ∙ sym (length-map c.loop-item.drafts.items service_of_draft) in
    let grown : map service_of_draft c.push.new.self.items ≡ before ++ s ∷ [] =
    map-last service_of_draft c.loop-item.drafts.items c.push.new.self.items c.in-Ok.draft c.push.ensures.items in
    let found : service_from c.args.format (length before) (as_table (view (get_or vs i c.item-item.result))) ≡ Ok s = subst
    (λ (v : Value). service_from c.args.format (length before) (as_table (view v)) ≡ Ok s) c.item-item.is
    (subst (λ (k : ℕ). service_from c.args.format k (as_table (view c.item-item.result)) ≡ Ok s) n c.in-Ok.ensures.read) in
    record {
      read = subst (λ (z : List Service). services_in c.args.format z (items_view (drop (i + 1) vs)) ≡ services_in c.args.format []
          (items_view vs)) (sym grown)
          (services_in-more c.args.format before vs i c.item-item.result s (services_in c.args.format [] (items_view vs)) (omega arith)
          c.loop-item.invariant.read found);
      each = each-last IsService before (map service_of_draft c.push.new.self.items) s grown c.loop-item.invariant.each
          c.in-Ok.ensures.service;
      count =
          omega (
            arith,
            length-last c.loop-item.drafts.items c.push.new.self.items c.in-Ok.draft c.push.ensures.items,
            c.loop-item.invariant.count,
          );
    }
