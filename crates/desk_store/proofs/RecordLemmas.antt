-- What calls add to what a pass has seen, by plain values.
use Rattle.std.proofs.Common.{◌≡◌, ◌⊎◌, ℕ, ◌+◌, ◌≤◌, List, [], ◌∷◌, ◌++◌, length, refl, ap, sym, ◌∙◌, subst, inl, inr, arith, append-nil}
use Rattle.std.proofs.Common.{append_assoc, length-append}
use Rattle.history.specs.declared.entry.Entry.{Entry}
use Rattle.history.specs.History.{entry, Run}
use Rattle.history.proofs.RunLemmas.{run_end}
use Rattle.desk_rule.proofs.ListLemmas.{prefix_trans}
use Rattle.ds_machine.specs.State.{State}
use Rattle.ds_machine.specs.declared.command.Command.{Command}
use Rattle.ds_machine.specs.declared.reply.Reply.{Reply}
use Rattle.ds_store.specs.Turns.{Answered}
use Rattle.desk_store.specs.Called.{HadAccepted, Made, MadeCall}
use Rattle.desk_store.specs.Later.{MadeSeesMore, SeenMoreAgain}
use Rattle.desk_store.specs.Record.{HasJustItsCalls, PassOrigin, PassRecord, place_after}

-- ---- calls in order
pub made_none : (p : PassRecord) → Made p p []
made_none p = record {
  same = refl;
  same_opening = refl;
  between = [];
  seen = sym (append-nil p.history);
  longer = omega arith;
  calls_are = sym (append-nil p.calls);
  turned = [];
  turns_are = sym (append-nil p.turns);
  apart = omega arith;
  just = inl refl;
}

just_later : (p q r : PassRecord) → (q ≡ p) ⊎ HasJustItsCalls q → (r ≡ q) ⊎ HasJustItsCalls r → (r ≡ p) ⊎ HasJustItsCalls r
just_later p q r a (inr just) = inr just
just_later p q r (inl e) (inl f) = inl (f ∙ e)
just_later p q r (inr just) (inl f) = inr (subst (λ (x : PassRecord). HasJustItsCalls x) (sym f) just)

pub made_more : (p q r : PassRecord) (own more : List (Entry Command Reply)) → Made p q own → Made q r more → Made p r (own ++ more)
made_more p q r own more a b = record {
  same = b.same ∙ a.same;
  same_opening = b.same_opening ∙ a.same_opening;
  between = a.between ++ b.between;
  seen = b.seen ∙ ap (λ (l : List (Entry Command Reply)). l ++ b.between) a.seen ∙ append_assoc p.history a.between b.between;
  longer = omega (arith, length-append own more, length-append a.between b.between, a.longer, b.longer);
  calls_are = b.calls_are ∙ ap (λ (l : List (Entry Command Reply)). l ++ more) a.calls_are ∙ append_assoc p.calls own more;
  turned = a.turned ++ b.turned;
  turns_are = b.turns_are ∙ ap (λ (l : List (List (Entry Command Reply))). l ++ b.turned) a.turns_are ∙
      append_assoc p.turns a.turned b.turned;
  apart = omega (arith, length-append own more, length-append a.turned b.turned, a.apart, b.apart);
  just = just_later p q r a.just b.just;
}

-- each of them has a place after what was seen
pub made_above : (p q : PassRecord) (own : List (Entry Command Reply)) → Made p q own → place_after p + length own ≤ place_after q
made_above p q own a =
    omega (
      arith,
      ap (λ (o : PassOrigin). o.first) a.same,
      ap (λ (l : List (List (Entry Command Reply))). length l) a.turns_are,
      length-append
          p.turns a.turned,
      a.apart,
    )

-- ---- a pass that has seen more
pub made_sees_more : MadeSeesMore
made_sees_more p q own a = record { same_opening = a.same_opening; begins = (a.between, sym a.seen) }

pub seen_more_again : SeenMoreAgain
seen_more_again p q r a b =
    record { same_opening = b.same_opening ∙ a.same_opening; begins = prefix_trans p.history q.history r.history a.begins b.begins }

-- ---- one call
module _ (p q : PassRecord) (command : Command) (reply : Reply) (place : ℕ) (c : MadeCall p q command reply place) where
  -- nothing has been seen after it
  pub call_after : place + 1 ≡ place_after q
  call_after =
      omega (
        arith,
        c.at,
        ap (λ (o : PassOrigin). o.first) c.made.same,
        ap (λ (l : List (List (Entry Command Reply))). length l) c.turns_end,
        length-append (p.turns ++ c.turned) ((entry p.origin.number command reply ∷ []) ∷ []),
      )

  -- each run of what the pass has seen ends with it
  pub call_last : (s t : State) → Run Answered s q.history t →
      (m : State) × Run Answered s (p.history ++ c.between) m × Answered m command reply t
  call_last s t run =
      run_end Answered s t (p.history ++ c.between) (entry p.origin.number command reply)
      (subst (λ (l : List (Entry Command Reply)). Run Answered s l t) c.ends run)

-- ---- a call that wasn't refused
pub accepted_first : (p q r : PassRecord) (more : List (Entry Command Reply)) → HadAccepted p q → Made q r more → HadAccepted p r
accepted_first p q r more a b = record {
  front = a.front;
  call = a.call;
  back = a.back ++ more;
  made = subst (λ (l : List (Entry Command Reply)). Made p r l) (append_assoc a.front (a.call ∷ a.back) more)
      (made_more p q r (a.front ++ a.call ∷ a.back) more a.made b);
  accepted = a.accepted;
}

pub accepted_last : (p q r : PassRecord) (own : List (Entry Command Reply)) → Made p q own → HadAccepted q r → HadAccepted p r
accepted_last p q r own a b = record {
  front = own ++ b.front;
  call = b.call;
  back = b.back;
  made = subst (λ (l : List (Entry Command Reply)). Made p r l) (sym (append_assoc own b.front (b.call ∷ b.back)))
      (made_more p q r own (b.front ++ b.call ∷ b.back) a b.made);
  accepted = b.accepted;
}
