use Rattle.std.proofs.Common.{◌≡◌, ℕ, List, ◌≤◌, ◌<◌, length, get_or, map, Bor, Less, Equal, Greater, nat_cmp, refl, sym, subst, true}
use Rattle.std.proofs.Common.{false}
use Rattle.std.specs.Cmp.Lexicographic.{slice_cmp}
use Rattle.std.specs.List.{insert}
use Rattle.std.specs.List.Sorted.{IsNonDecreasingBy, IsPartitionPoint}
use Rattle.std.specs.Ordering.{ordering_index}
use Rattle.std.proofs.Common.{◌||◌}
use Rattle.rs_settings.specs.Values.{is_same}
use Rattle.rs_settings.specs.Shared.{has_name}
use Rattle.rs_settings.specs.Ascending.{AreAscending}
use Rattle.rs_settings.proofs.AscendingLemmas.{search_rises, has_name-insert, has_name-found, has_name-none, has_name-again}
use Rattle.rs_settings.proofs.AscendingLemmas.{ascending-insert}
use Rattle.rs_settings.proofs.seen.Seen.add.Goals as goal

abbrev text : Bor (List ℕ) → List ℕ
text n = n.now

abbrev Names : Type 0
Names = List (Bor (List ℕ))

-- where the search ended at a name, it is there
there : (c : goal.In-Ok) → has_name c.args.self.now c.args.name.now ≡ true
there c =
    let name = c.args.name.now in
    let s : c.as_slice.result.now ≡ c.self.inside.names.items = c.as_slice.ensures.value in
    let here : (d : Bor (List ℕ)) → slice_cmp nat_cmp (get_or c.as_slice.result.now c.in-Ok.field-0 d).now name ≡ Equal =
    c.in-Ok.ensures.position in
    let l : c.in-Ok.field-0 < length c.as_slice.result.now = c.in-Ok.ensures.bound in
    let v : map text c.self.inside.names.items ≡ c.args.self.now = c.self.view_is in
    let found : has_name (map text c.as_slice.result.now) name ≡ true =
    has_name-found text c.as_slice.result.now c.in-Ok.field-0 name l here in
    subst (λ (z : List (List ℕ)). has_name z name ≡ true) v (subst (λ (z : Names). has_name (map text z) name ≡ true) s found)

-- where it ended at none, this is the place
place : (xs found : Names) (name : List ℕ) (i : ℕ) → found ≡ xs → AreAscending text xs →
    (IsNonDecreasingBy (λ y. ordering_index (slice_cmp nat_cmp (text y) name)) found →
    IsPartitionPoint (λ y. slice_cmp nat_cmp (text y) name ≡ Less) (λ y. slice_cmp nat_cmp (text y) name ≡ Greater) found i) →
    IsPartitionPoint (λ y. slice_cmp nat_cmp (text y)
    name ≡ Less) (λ y. slice_cmp nat_cmp (text y) name ≡ Greater) xs i
place xs found name i same rise find = subst
    (λ (z : Names). IsPartitionPoint (λ y. slice_cmp nat_cmp (text y) name ≡ Less) (λ y. slice_cmp nat_cmp (text y) name ≡ Greater) z i)
    same (find (search_rises text found name (subst (λ (z : Names). AreAscending text z) (sym same) rise)))

pub invariant_of-self : goal.invariant_of-self
invariant_of-self c =
    let rise : AreAscending text c.self.inside.names.items = c.self.invariant in
    let le : c.in-Err.place ≤ length c.self.inside.names.items =
    subst (λ (z : Names). c.in-Err.place ≤ length z) c.as_slice.ensures.value c.in-Err.ensures.bound in
    subst (λ (z : Names). AreAscending text z) (sym c.insert.ensures.items)
    (ascending-insert text c.self.inside.names.items c.in-Err.place c.args.name le rise
    (place c.self.inside.names.items c.as_slice.result.now c.args.name.now c.in-Err.place c.as_slice.ensures.value rise
    c.in-Err.ensures.position))

pub returns-in-Ok-clause-added : goal.returns-in-Ok-clause-added
returns-in-Ok-clause-added c = rw (there c) refl

pub returns-in-Ok-clause-after : goal.returns-in-Ok-clause-after
returns-in-Ok-clause-after c = λ n. has_name-again c.args.self.now c.args.name.now n (there c)

pub returns-in-Err-clause-added : goal.returns-in-Err-clause-added
returns-in-Err-clause-added c =
    let rise : AreAscending text c.self.inside.names.items = c.self.invariant in
    let v : map text c.self.inside.names.items ≡ c.args.self.now = c.self.view_is in
    let p = place c.self.inside.names.items c.as_slice.result.now c.args.name.now c.in-Err.place c.as_slice.ensures.value rise
    c.in-Err.ensures.position in
    let absent : has_name c.args.self.now c.args.name.now ≡ false =
    subst (λ (z : List (List ℕ)). has_name z c.args.name.now ≡ false) v
    (has_name-none text c.self.inside.names.items c.in-Err.place c.args.name.now p) in
    rw absent refl

pub returns-in-Err-clause-after : goal.returns-in-Err-clause-after
returns-in-Err-clause-after c = λ n.
    let v : map text c.self.inside.names.items ≡ c.args.self.now = c.self.view_is in
    subst (λ (z : Names). has_name (map text z) n ≡ (has_name c.args.self.now n || is_same n c.args.name.now)) (sym c.insert.ensures.items)
    (subst (λ (z : List (List ℕ)). has_name (map text (insert c.self.inside.names.items c.in-Err.place c.args.name)) n ≡
    (has_name z n || is_same n c.args.name.now)) v
    (has_name-insert text c.self.inside.names.items c.in-Err.place c.args.name n))
