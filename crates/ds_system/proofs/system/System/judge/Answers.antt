use Rattle.std.proofs.Common.{◌≡◌, ℕ, true, Some, sym, ap, ◌∙◌, subst}
use Rattle.rs_settings.specs.declared.service.Service.{Service}
use Rattle.rs_core.specs.declared.state.State.TheVariants.{Up}
use Rattle.rs_core.specs.Numbering.{NumbererRecord}
use Rattle.rs_core.specs.Says.{place_of_label}
use Rattle.rs_core.specs.State.{RsRecord, state_at, service_at}
use Rattle.ds_system.specs.Drawing.{is_declared, numbers_left, numbers_of}
use Rattle.ds_system.specs.Stands.{SystemRecord}
use Rattle.ds_system.specs.Effects.{instance_at}
use Rattle.ds_system.proofs.WriteLemmas.{up_from, spent, drawn_so}
use Rattle.ds_system.proofs.system.System.judge.Goals as goal

pub returns-clause-drawn : goal.returns-clause-drawn
returns-clause-drawn c =
    let v = c.args.self.now in
    let i = c.in-Some.place in
    let r = c.in-Some-Up.running in
    let own = c.self.inside.rs in
    let rs : own ≡ v.rs = ap (λ (x : SystemRecord). x.rs) c.self.view_is in
    let here : place_of_label own c.args.label.now ≡ Some i = sym c.place_of.ensures.value ∙ c.in-Some.is in
    let place : place_of_label v.rs c.args.label.now ≡ Some i =
    subst (λ (x : RsRecord). place_of_label x c.args.label.now ≡ Some i) rs here in
    let declared : is_declared (service_at v.rs i) c.args.key.now ≡ true =
    ap (λ (z : Service). is_declared z c.args.key.now) (sym c.service_at.ensures) ∙ (sym c.declares.ensures ∙ c.if-not-declares.false) in
    let up : state_at v.rs i ≡ Up r = subst (λ (x : RsRecord). state_at x i ≡ Up r) rs
    (up_from own c.args.label.now i c.state.result c.in-Some-Up.field-0 r c.state.ensures here c.in-Some-Up.is c.in-Some-Up.field-0-is) in
    let numbers : c.numbers_of-numbers.result ≡ numbers_left v.numberers (instance_at i r) =
    c.numbers_of-numbers.ensures ∙ (ap (λ (g : ℕ). numbers_of c.numbers_at.result.now g) c.generation.ensures.value ∙
    ap (λ (n : NumbererRecord). numbers_of n r.endpoint.generation) c.numbers_at.ensures.value) in
    drawn_so v.rs v.numberers c.args.label.now c.args.key.now c.args.content.now i place declared r up
    (sym c.is_of_kind.ensures.value ∙ c.if-not-is_of_kind.false) c.numbers_of-numbers.result numbers
    (sym c.is_spent.ensures ∙ c.if-is_spent.false)

pub returns-clause-numbers : goal.returns-clause-numbers
returns-clause-numbers c =
    let r = c.in-Some-Up.running in
    c.numbers_of-numbers.ensures ∙ (ap (λ (g : ℕ). numbers_of c.numbers_at.result.now g) c.generation.ensures.value ∙
    ap (λ (n : NumbererRecord). numbers_of n r.endpoint.generation) c.numbers_at.ensures.value)

pub returns-then-is_spent-clause-refused : goal.returns-then-is_spent-clause-refused
returns-then-is_spent-clause-refused c =
    let v = c.args.self.now in
    let i = c.in-Some.place in
    let r = c.in-Some-Up.running in
    let own = c.self.inside.rs in
    let rs : own ≡ v.rs = ap (λ (x : SystemRecord). x.rs) c.self.view_is in
    let here : place_of_label own c.args.label.now ≡ Some i = sym c.place_of.ensures.value ∙ c.in-Some.is in
    let place : place_of_label v.rs c.args.label.now ≡ Some i =
    subst (λ (x : RsRecord). place_of_label x c.args.label.now ≡ Some i) rs here in
    let declared : is_declared (service_at v.rs i) c.args.key.now ≡ true =
    ap (λ (z : Service). is_declared z c.args.key.now) (sym c.service_at.ensures) ∙ (sym c.declares.ensures ∙ c.if-not-declares.false) in
    let up : state_at v.rs i ≡ Up r = subst (λ (x : RsRecord). state_at x i ≡ Up r) rs
    (up_from own c.args.label.now i c.state.result c.in-Some-Up.field-0 r c.state.ensures here c.in-Some-Up.is c.in-Some-Up.field-0-is) in
    let numbers : c.numbers_of-numbers.result ≡ numbers_left v.numberers (instance_at i r) =
    c.numbers_of-numbers.ensures ∙ (ap (λ (g : ℕ). numbers_of c.numbers_at.result.now g) c.generation.ensures.value ∙
    ap (λ (n : NumbererRecord). numbers_of n r.endpoint.generation) c.numbers_at.ensures.value) in
    spent v.rs v.numberers c.args.label.now c.args.key.now c.args.content.now i place declared r up
    (sym c.is_of_kind.ensures.value ∙ c.if-not-is_of_kind.false) c.numbers_of-numbers.result numbers
    (sym c.is_spent.ensures ∙ c.if-is_spent.true)
