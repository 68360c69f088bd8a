use Rattle.std.proofs.Common.{◌≡◌, ◌++◌, ◌∷◌, [], Result, Ok, sym, ap, ◌∙◌, subst, rules}
use Rattle.ds_entry.specs.declared.floor.Floor.{Floor}
use Rattle.ds_entry.specs.declared.item.Item.TheVariants.{Floor as Floored}
use Rattle.ds_join.specs.ItemTop.{IsTop}
use Rattle.ds_join.specs.declared.merge.Merge.{Merge}
use Rattle.ds_join.specs.declared.merge.JoinFault.{JoinFault}
use Rattle.ds_held.specs.Held.{Holding, held_items, IsSound}
use Rattle.ds_held.specs.Kept.{holding_of, list_after, put_at}
use Rattle.ds_held.specs.Raise.{RaiseAnswer}
use Rattle.ds_held.proofs.KeptLemmas.{raised_joins}
use Rattle.ds_held.proofs.BesideLemmas.{raised_over}
use Rattle.ds_held.proofs.held.Held.raise.Goals as goal

pub invariant_of-self : goal.invariant_of-self
invariant_of-self c =
    let w = c.in-Ok-Taken.ensures.floors in
    let raised = subst (λ (m : Merge). c.raise.new.floors.items ≡ list_after c.self.inside.floors.items
    (put_at c.self.inside.floors.items w.0 c.args.floor) (Ok m)) c.in-Ok-Taken.field-0-is w.2 in
    let taken = subst (λ (m : Merge). RaiseAnswer (holding_of c.self.inside.floors.items c.self.inside.changes c.self.inside.limits)
    c.args.floor (Ok m)) c.in-Ok-Taken.field-0-is c.in-Ok-Taken.ensures.answer in
    (raised_over c.self.inside.floors.items c.self.inside.changes c.self.inside.limits c.self.invariant c.args.self.now c.self.view_is
    c.args.floor w.0 w.1 taken
    c.raise.new.floors.items c.drop_void.new.changes raised c.drop_void.ensures).still

pub returns-in-Ok-Taken-clause-after : goal.returns-in-Ok-Taken-clause-after
returns-in-Ok-Taken-clause-after c =
    let w = c.in-Ok-Taken.ensures.floors in
    let raised = subst (λ (m : Merge). c.raise.new.floors.items ≡ list_after c.self.inside.floors.items
    (put_at c.self.inside.floors.items w.0 c.args.floor) (Ok m)) c.in-Ok-Taken.field-0-is w.2 in
    let taken = subst (λ (m : Merge). RaiseAnswer (holding_of c.self.inside.floors.items c.self.inside.changes c.self.inside.limits)
    c.args.floor (Ok m)) c.in-Ok-Taken.field-0-is c.in-Ok-Taken.ensures.answer in
    (raised_over c.self.inside.floors.items c.self.inside.changes c.self.inside.limits c.self.invariant c.args.self.now c.self.view_is
    c.args.floor w.0 w.1 taken
    c.raise.new.floors.items c.drop_void.new.changes raised c.drop_void.ensures).after

pub returns-in-Ok-Taken-clause-joined : goal.returns-in-Ok-Taken-clause-joined
returns-in-Ok-Taken-clause-joined c =
    let w = c.in-Ok-Taken.ensures.floors in
    let raised = subst (λ (m : Merge). c.raise.new.floors.items ≡ list_after c.self.inside.floors.items
    (put_at c.self.inside.floors.items w.0 c.args.floor) (Ok m)) c.in-Ok-Taken.field-0-is w.2 in
    let taken = subst (λ (m : Merge). RaiseAnswer (holding_of c.self.inside.floors.items c.self.inside.changes c.self.inside.limits)
    c.args.floor (Ok m)) c.in-Ok-Taken.field-0-is c.in-Ok-Taken.ensures.answer in
    (raised_over c.self.inside.floors.items c.self.inside.changes c.self.inside.limits c.self.invariant c.args.self.now c.self.view_is
    c.args.floor w.0 w.1 taken
    c.raise.new.floors.items c.drop_void.new.changes raised c.drop_void.ensures).joined

pub returns-in-Ok-Taken-clause-sound : goal.returns-in-Ok-Taken-clause-sound
returns-in-Ok-Taken-clause-sound c =
    let w = c.in-Ok-Taken.ensures.floors in
    let raised = subst (λ (m : Merge). c.raise.new.floors.items ≡ list_after c.self.inside.floors.items
    (put_at c.self.inside.floors.items w.0 c.args.floor) (Ok m)) c.in-Ok-Taken.field-0-is w.2 in
    let taken = subst (λ (m : Merge). RaiseAnswer (holding_of c.self.inside.floors.items c.self.inside.changes c.self.inside.limits)
    c.args.floor (Ok m)) c.in-Ok-Taken.field-0-is c.in-Ok-Taken.ensures.answer in
    (raised_over c.self.inside.floors.items c.self.inside.changes c.self.inside.limits c.self.invariant c.args.self.now c.self.view_is
    c.args.floor w.0 w.1 taken
    c.raise.new.floors.items c.drop_void.new.changes raised c.drop_void.ensures).still.sound

-- The same answer, in terms of the holding.
answered : (old h : Holding) → old ≡ h → (f : Floor) (r : Result Merge JoinFault) → RaiseAnswer old f r → RaiseAnswer h f r
answered old h is f r a = subst (λ (g : Holding). RaiseAnswer g f r) is a

pub returns-in_default : goal.returns-in_default
returns-in_default c =
    let old = holding_of c.self.inside.floors.items c.self.inside.changes c.self.inside.limits in
    let new = holding_of c.raise.new.floors.items c.self.inside.changes c.self.inside.limits in
    let floors : c.raise.new.floors.items ≡ c.self.inside.floors.items = c.in_default.ensures.floors.2 ∙ search rules in
    let same : new ≡ old = ap (λ l. holding_of l c.self.inside.changes c.self.inside.limits) floors in
    record {
      answer = answered old c.args.self.now c.self.view_is c.args.floor (Ok _) c.in_default.ensures.answer;
      after = same ∙ c.self.view_is ∙ search rules;
      joined = subst (λ (h : Holding). IsTop (held_items new) (held_items h ++ Floored c.args.floor ∷ [])) c.self.view_is
          (raised_joins old new c.args.floor (Ok _) c.self.invariant.sound c.in_default.ensures.answer (same ∙ search rules));
      sound = subst IsSound (sym same) c.self.invariant.sound;
    }
