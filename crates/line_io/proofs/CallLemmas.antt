-- Calls in order.
use Rattle.std.proofs.Common.{◌≡◌, ℕ, zero, suc, ◌+◌, sym, subst, add-one, inl, inr, refl, arith}
use Rattle.line_io.specs.Streams.{CallsLead, OnlyCalls, HasFailedWrite}

-- one more call
pub leads_more : {S : Type 0} (calls : S → S → Type 0) (n : ℕ) (old mid new : S) → CallsLead calls n old mid → calls mid new →
    CallsLead calls (n + 1) old new
leads_more {S} calls n old mid new led one = subst (λ (k : ℕ). CallsLead calls k old new) (sym (add-one n)) (mid, led, one)

-- calls after others
pub calls_on : {S : Type 0} (calls : S → S → Type 0) (m n : ℕ) (old mid new : S) → CallsLead calls m old mid → CallsLead calls n mid new →
    CallsLead calls (n + m) old new
calls_on {S} calls m zero old mid new led more =
    let same : m ≡ 0 + m = omega arith in
    subst (λ (k : ℕ). CallsLead calls k old new) same (subst (λ (x : S). CallsLead calls m old x) (sym more) led)
calls_on calls m (suc n) old mid new led more =
    let same : suc (n + m) ≡ suc n + m = omega arith in
    subst (λ (k : ℕ). CallsLead calls k old new) same (more.0, calls_on calls m n old mid more.0 led more.1, more.2)

pub no_calls : {S : Type 0} (calls : S → S → Type 0) (now : S) → OnlyCalls calls now now
no_calls calls now = (0, refl)

pub only_calls_on : {S : Type 0} (calls : S → S → Type 0) (old mid new : S) → OnlyCalls calls old mid → OnlyCalls calls mid new →
    OnlyCalls calls old new
only_calls_on calls old mid new led more = (more.0 + led.0, calls_on calls led.0 more.0 old mid new led.1 more.1)

-- a failed write after others
pub failed_on : {W : Type 0} (writes fails : W → W → Type 0) (old mid new : W) → OnlyCalls writes old mid →
    HasFailedWrite writes fails mid new → HasFailedWrite writes fails old new
failed_on writes fails old mid new led failed =
    elim failed.1 [
      | inl last ↦ (failed.0 + led.0, inl (last.0, calls_on writes led.0 failed.0 old mid last.0 led.1 last.1, last.2))
      | inr many ↦ (failed.0 + led.0, inr (omega (arith, many.0), calls_on writes led.0 failed.0 old mid new led.1 many.1))
    ]
