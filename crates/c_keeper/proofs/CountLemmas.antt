-- RS counts no instance if none of its services has one.
use Rattle.std.proofs.Common.{◌≡◌, ◌+◌, ◌<◌, ◌≤◌, ℕ, length, Option, Some, None, true, false, is_some, true≢false, refl, sym, ap}
use Rattle.std.proofs.Common.{◌∙◌, subst, inl, inr, arith}
use Rattle.std.proofs.lemmas.Bool.{cases_lt}
use Rattle.std.proofs.lemmas.List.{get_or_past}
use Rattle.ds_names.specs.Endpoint.{EndpointRecord}
use Rattle.rs_core.specs.declared.state.State.TheVariants.{Down}
use Rattle.rs_core.specs.Late.{endpoint_in_force}
use Rattle.rs_core.specs.State.{RsRecord, state_at}
use Rattle.c_keeper.specs.Opening.{CountsNone}

-- none of the services before the index has one
abbrev pub NoneBefore : RsRecord → ℕ → Type 0
NoneBefore rs n = (k : ℕ) → k < n → endpoint_in_force (state_at rs k) ≡ None

pub none_yet : (rs : RsRecord) → NoneBefore rs 0
none_yet rs k l = absurd (no k l)
  where
    no : (k : ℕ) → k < 0 → ⊥
    no k l = omega arith

is_none : (o : Option EndpointRecord) → is_some o ≡ false → o ≡ None
is_none None e = refl
is_none (Some x) e = absurd (true≢false e)

pub one_more : (rs : RsRecord) (n : ℕ) (o : Option EndpointRecord) → NoneBefore rs n → o ≡ endpoint_in_force (state_at rs n) →
    is_some o ≡ false → NoneBefore rs (n + 1)
one_more rs n o before is none k l = elim (cases_lt k n) [
  | inl less ↦ before k less
  | inr more ↦ subst (λ (i : ℕ). endpoint_in_force (state_at rs i) ≡ None) (same more l) (sym is ∙ is_none o none)
]
  where
    same : n ≤ k → k < n + 1 → n ≡ k
    same more l = omega (arith, more, l)

pub all_walked : (rs : RsRecord) (n : ℕ) → NoneBefore rs n → length rs.states ≤ n → CountsNone rs
all_walked rs n before fits k = elim (cases_lt k n) [
  | inl less ↦ before k less
  | inr more ↦ ap endpoint_in_force (get_or_past rs.states k Down (omega (arith, more, fits)))
]
