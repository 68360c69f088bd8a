use Rattle.std.proofs.Common.{ap, sym, ◌∙◌, subst}
use Rattle.std.specs.Option.{option_and_then}
use Rattle.ds_entry.specs.Left.{value_in, value_of}
use Rattle.ds_content.specs.Content.{ContentRecord}
use Rattle.ds_content.specs.Stands.{ContentStands}
use Rattle.ds_store.proofs.AnswerLemmas.{found_kind}
use Rattle.ds_store.proofs.FindLemmas.{live_of}
use Rattle.ds_store.proofs.store.Store.fast_retrieve.Goals as goal

pub returns-in_default-clause-live : goal.returns-in_default-clause-live
returns-in_default-clause-live c = λ s stands.
    let v = c.deref.result.now in
    let here : ContentStands v s = subst (λ (x : ContentRecord). ContentStands x s) (sym (c.deref.ensures ∙ c.self.view_is)) stands in
    ap (option_and_then value_of) c.in_default.ensures.value ∙ live_of v s c.args.key.now here

pub returns-in-Put-clause-live : goal.returns-in-Put-clause-live
returns-in-Put-clause-live c = λ s stands.
    let v = c.deref.result.now in
    let here : ContentStands v s = subst (λ (x : ContentRecord). ContentStands x s) (sym (c.deref.ensures ∙ c.self.view_is)) stands in
    let put = sym c.body.ensures.value ∙ c.in-Put.is in
    sym (ap value_in put) ∙ ap (option_and_then value_of) c.in-Some.ensures.value ∙ live_of v s c.args.key.now here

pub returns-in-Gone-clause-live : goal.returns-in-Gone-clause-live
returns-in-Gone-clause-live c = λ s stands.
    let v = c.deref.result.now in
    let here : ContentStands v s = subst (λ (x : ContentRecord). ContentStands x s) (sym (c.deref.ensures ∙ c.self.view_is)) stands in
    let gone = sym c.body.ensures.value ∙ c.in-Gone.is in
    sym (ap value_in gone) ∙ ap (option_and_then value_of) c.in-Some.ensures.value ∙ live_of v s c.args.key.now here

pub returns-in-Put-clause-kind : goal.returns-in-Put-clause-kind
returns-in-Put-clause-kind c =
    let put = sym c.body.ensures.value ∙ c.in-Put.is in
    found_kind c.deref.result.now.held c.args.key.now c.in-Some.change.now c.in-Put.value (sym c.in-Some.ensures.value)
    c.in-Some.ensures.change put
