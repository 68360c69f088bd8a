-- The orders of keys and versions are total, and what compares equal is equal.
use Rattle.std.proofs.Common.{◌≡◌, ℕ, zero, suc, List, refl, ap, sym, ◌∙◌}
use Rattle.std.specs.Ordering.{nat_cmp}
use Rattle.std.specs.Cmp.{IsTotalOrder}
use Rattle.std.proofs.lemmas.Cmp.{on_total, then_total, nat_cmp_total, nat_list_cmp_total}
use Rattle.std.proofs.lemmas.Map.Lookups.{exact_pairs, exact_unsigned, exact_bytes, CmpEqualImpliesEq}
use Rattle.ds_names.specs.declared.kind.Kind.{Kind}
use Rattle.ds_names.specs.declared.kind.Kind.TheVariants.{Label, U32, Str, Mem}
use Rattle.ds_names.specs.Key.{name_cmp, key_cmp}
use Rattle.ds_names.specs.Version.{version_cmp}
use Rattle.ds_names.specs.Kind.{kind_place}

pub keys_total : IsTotalOrder key_cmp
keys_total = then_total (on_total (λ k. k.name) nat_list_cmp_total) (on_total (λ k. kind_place k.kind) nat_cmp_total)

-- the kind at a place
abbrev kind_at : ℕ → Kind
kind_at zero = Label
kind_at (suc zero) = U32
kind_at (suc (suc zero)) = Str
kind_at (suc (suc (suc n))) = Mem

kind_at-kind_place : (k : Kind) → kind_at (kind_place k) ≡ k
kind_at-kind_place Label = refl
kind_at-kind_place U32 = refl
kind_at-kind_place Str = refl
kind_at-kind_place Mem = refl

-- Keys that compare equal are equal.
pub exact_keys : CmpEqualImpliesEq key_cmp
exact_keys a b h =
    let parts = exact_pairs name_cmp nat_cmp exact_bytes exact_unsigned (a.name, kind_place a.kind) (b.name, kind_place b.kind) h in
    let kind : a.kind ≡ b.kind = sym (kind_at-kind_place a.kind) ∙ ap (λ (p : List ℕ × ℕ). kind_at p.1) parts ∙ kind_at-kind_place b.kind in
    let name : a.name ≡ b.name = ap (λ (p : List ℕ × ℕ). p.0) parts in
    ap (λ (n : List ℕ). record { name = n; kind = a.kind }) name ∙ ap (λ (k : Kind). record { name = b.name; kind = k }) kind

pub versions_total : IsTotalOrder version_cmp
versions_total = then_total (on_total (λ v. v.epoch) nat_cmp_total) (on_total (λ v. v.seq) nat_cmp_total)

pub exact_versions : CmpEqualImpliesEq version_cmp
exact_versions a b h = ap (λ (p : ℕ × ℕ). record { epoch = p.0; seq = p.1 })
    (exact_pairs nat_cmp nat_cmp exact_unsigned exact_unsigned (a.epoch, a.seq) (b.epoch, b.seq) h)
