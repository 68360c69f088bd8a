-- A label that follows RS runs what RS wants, by inputs that it accepts.
use Rattle.std.proofs.Common.{◌≡◌, ℕ, Bool, true, false, cond, not, is_some, List, [], ◌∷◌, Option, Some, None, refl, ap, ◌∙◌}
use Rattle.std.proofs.lemmas.Bool.{false≢true, true≢false, eqb-true}
use Rattle.process_keeper.specs.Inputs.{is_running, with_deadline, after_input}
use Rattle.process_keeper.specs.Following.{up_generation, wanted, are_same_wants, halted, begun_anew, followed, after_inputs, AcceptsAll}
use Rattle.process_keeper.specs.Following.{FollowsByInputs, FollowingIsInputs}
use Rattle.process_keeper.specs.declared.input.Input.{Input}
use Rattle.process_keeper.specs.declared.input.Input.TheVariants.{Cancelled, Stopped, Started}
use Rattle.process_keeper.specs.declared.instance.Instance.{Instance}
use Rattle.process_keeper.specs.declared.lifecycle.Lifecycle.{Lifecycle}

-- ---- an instance that isn't running
not_up : (o : Option Instance) → is_running o ≡ false → up_generation o ≡ None
not_up None e = refl
not_up (Some b) e = by_deadline b.deadline e
  where
    by_deadline : (d : Option ℕ) → not (is_some d) ≡ false → cond (is_some d) None (Some b.generation) ≡ None
    by_deadline None e = absurd (true≢false e)
    by_deadline (Some t) e = refl

pub stopped_not_up : (o : Option Instance) (at : ℕ) → up_generation (with_deadline o at) ≡ None
stopped_not_up None at = refl
stopped_not_up (Some b) at = refl

stopped_not_running : (o : Option Instance) (at : ℕ) → not (is_running (with_deadline o at)) ≡ true
stopped_not_running None at = refl
stopped_not_running (Some b) at = refl

-- ---- a label that is halted, and one that follows
pub halted_by : (P : Lifecycle → Type 0) (p : Lifecycle) (d : ℕ) →
    (is_running p.instance ≡ true → P (after_input (after_input p Cancelled) (Stopped d))) →
    (is_running p.instance ≡ false → P (after_input p Cancelled)) → P (halted p d)
halted_by P p d f g = by_test (is_running p.instance) refl
  where
    by_test : (b : Bool) → is_running p.instance ≡ b →
        P (cond b (after_input (after_input p Cancelled) (Stopped d)) (after_input p Cancelled))
    by_test true e = f e
    by_test false e = g e

halts : (p : Lifecycle) (d : ℕ) → wanted (halted p d) ≡ None
halts p d = halted_by (λ q. wanted q ≡ None) p d (λ e. stopped_not_up p.instance d) (λ e. not_up p.instance e)

starts : (p : Lifecycle) (w : Option ℕ) → wanted p ≡ None → wanted (begun_anew p w) ≡ w
starts p None e = e
starts p (Some g) e = refl

same_number : (a b : Option ℕ) → are_same_wants a b ≡ true → a ≡ b
same_number None None e = refl
same_number None (Some b) e = absurd (false≢true e)
same_number (Some a) None e = absurd (false≢true e)
same_number (Some a) (Some b) e = ap (λ (n : ℕ). Some n) (eqb-true a b e)

-- ---- inputs
record Chain (p q : Lifecycle) : Type 0 where
  inputs : List Input
  accepted : AcceptsAll p inputs
  after : q ≡ after_inputs p inputs

chain : (p : Lifecycle) (w : Option ℕ) (d : ℕ) → Chain p (begun_anew (halted p d) w)
chain p None d =
    halted_by (λ q. Chain p q) p d
    (λ e. record { inputs = Cancelled ∷ Stopped d ∷ []; accepted = (refl, (e, tt)); after = refl })
    (λ e. record { inputs = Cancelled ∷ []; accepted = (refl, tt); after = refl })
chain p (Some g) d =
    halted_by (λ q. Chain p (begun_anew q (Some g))) p d
    (λ e.
    record
    { inputs = Cancelled ∷ Stopped d ∷ Started g ∷ []; accepted = (refl, (e, (stopped_not_running p.instance d, tt))); after = refl })
    (λ e. record { inputs = Cancelled ∷ Started g ∷ []; accepted = (refl, (ap (λ (b : Bool). not b) e, tt)); after = refl })

pub following_is_inputs : FollowingIsInputs
following_is_inputs p w d = by_test (are_same_wants (wanted p) w) refl
  where
    by_test : (b : Bool) → are_same_wants (wanted p) w ≡ b → FollowsByInputs p w d
    by_test true e =
        let same : followed p w d ≡ p = ap (λ (b : Bool). cond b p (begun_anew (halted p d) w)) e in
        record { wants = ap (λ (q : Lifecycle). wanted q) same ∙ same_number (wanted p) w e; inputs = []; accepted = tt; after = same }
    by_test false e =
        let other : followed p w d ≡ begun_anew (halted p d) w = ap (λ (b : Bool). cond b p (begun_anew (halted p d) w)) e in
        let c = chain p w d in
        record {
          wants = ap (λ (q : Lifecycle). wanted q) other ∙ starts (halted p d) w (halts p d);
          inputs = c.inputs;
          accepted = c.accepted;
          after = other ∙ c.after;
        }
