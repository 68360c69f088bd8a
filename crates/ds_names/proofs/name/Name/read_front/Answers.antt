use Rattle.std.proofs.Common.{◌≡◌, ◌<◌, List, [], ◌∷◌, ℕ, length, drop, take, refl, sym, ap, subst, ◌∙◌, lit<, lit≤, arith}
use Rattle.std.proofs.lemmas.List.{length-take-le, take_rest}
use Rattle.ds_names.specs.Name.{is_name_byte, IsName}
use Rattle.ds_names.specs.Run.{Begins}
use Rattle.ds_names.proofs.NameBlockLemmas.{run_kept, run_begins, name_is_run}
use Rattle.ds_names.proofs.name.Name.read_front.Goals.{in_default-via-in-Some+else-len-ne0, in_default-via-in_default}
use Rattle.ds_names.proofs.name.Name.read_front.Goals as goal

dash_is_name : IsName (45 ∷ [])
unfolding is_name_byte
dash_is_name = record { some = lit< tt; limit = lit≤ tt; allowed = refl }

pub invariant_of-self : goal.invariant_of-self
invariant_of-self c =
    let some : 0 < c.in-Some.len = omega (arith, c.if-len-ne0.true) in
    (run_kept c.args.bytes.now c.fill.new.block c.in-Some.len c.in-Some.ensures.run.1 some
    (omega (arith, c.in-Some.ensures.run.0, c.in-Some.ensures.run.1)) c.in-Some.ensures.filled).2

pub invariant_of-self-in_default : goal.invariant_of-self-in_default
invariant_of-self-in_default c = record { whole = refl; fits = lit≤ tt; name = dash_is_name; zeros = refl }

pub returns-in-Some-clause-found : goal.returns-in-Some-clause-found
returns-in-Some-clause-found c =
    let some : 0 < c.in-Some.len = omega (arith, c.if-len-ne0.true) in
    let kept = run_kept c.args.bytes.now c.fill.new.block c.in-Some.len c.in-Some.ensures.run.1 some
    (omega (arith, c.in-Some.ensures.run.0, c.in-Some.ensures.run.1)) c.in-Some.ensures.filled in
    let name : List ℕ = take c.in-Some.len c.fill.new.block in
    let long : length name ≡ c.in-Some.len = length-take-le c.in-Some.len c.fill.new.block (omega (arith, kept.2.whole, kept.2.fits)) in
    let begins : Begins is_name_byte c.args.bytes.now name (drop (length name) c.args.bytes.now) =
    run_begins c.args.bytes.now name (kept.0 ∙ ap (λ (n : ℕ). take n c.args.bytes.now) c.in-Some.ensures.run.1) in
    subst (λ (r : List ℕ). Begins is_name_byte c.args.bytes.now name r)
    (ap (λ (n : ℕ). drop n c.args.bytes.now) long ∙ sym (take_rest c.args.bytes.now c.in-Some.len)) begins

pub returns-in-Some-clause-name : goal.returns-in-Some-clause-name
returns-in-Some-clause-name c =
    let some : 0 < c.in-Some.len = omega (arith, c.if-len-ne0.true) in
    let kept = run_kept c.args.bytes.now c.fill.new.block c.in-Some.len c.in-Some.ensures.run.1 some
    (omega (arith, c.in-Some.ensures.run.0, c.in-Some.ensures.run.1)) c.in-Some.ensures.filled in
    kept.2.name

pub returns-in_default-clause-name : goal.returns-in_default-clause-name
returns-in_default-clause-name c = dash_is_name

pub returns-in_default-clause-none : goal.returns-in_default-clause-none
returns-in_default-clause-none c = λ name rest is begins.
    let run = name_is_run c.args.bytes.now name rest is begins in
    elim c.in_default.branch [
      | in_default-via-in-Some+else-len-ne0 w ↦ omega (arith, run, is.some, w.in-Some.ensures.run.1, w.if-len-ne0.false)
      | in_default-via-in_default w ↦ w.in_default.ensures.run (omega (arith, run, is.limit))
    ]
