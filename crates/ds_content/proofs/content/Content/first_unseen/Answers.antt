use Rattle.std.proofs.Common.{◌≡◌, true, take, ap, sym, ◌∙◌, subst}
use Rattle.std.specs.List.{list_any}
use Rattle.std.specs.Result.{IfOk, OnErr}
use Rattle.ds_held.specs.Held.{held_items}
use Rattle.ds_machine.specs.State.{unseen}
use Rattle.ds_index.specs.Marked.{MarkedHolding}
use Rattle.ds_watch.specs.declared.masks.Masks.{Masks}
use Rattle.ds_content.specs.Content.{ContentRecord}
use Rattle.ds_content.specs.Kept.{ArePending}
use Rattle.ds_content.specs.Shown.{AreUnseen, AreFirst, IsRest, IsRestOf, is_to_show}
use Rattle.ds_content.specs.Stands.{ContentStands}
use Rattle.ds_content.specs.declared.content.showing.Shown.{Shown}
use Rattle.ds_content.proofs.OpenLemmas.{if_ok, if_err}
use Rattle.ds_content.proofs.ServeLemmas.{seat_here, are_unseen, is_rest, first_are, to_show, some_to_show}
use Rattle.ds_content.proofs.content.Content.first_unseen.Goals as goal

pub first_unseen-requires-clause-place : goal.first_unseen-requires-clause-place
first_unseen-requires-clause-place c =
    (seat_here c.self.inside.held c.self.inside.journal c.self.inside.stamp c.self.inside.subscriptions c.args.self.now c.self.view_is
    c.self.invariant.stood.0 c.self.invariant.stood.1 c.self.invariant.places c.args.sub c.requires).1

pub first_unseen-requires-clause-pending : goal.first_unseen-requires-clause-pending
first_unseen-requires-clause-pending c =
    subst (λ (h : MarkedHolding Masks). ArePending h c.self.inside.pending) (sym c.marked.ensures) c.self.invariant.pending

pub returns-clause-unseen : goal.returns-clause-unseen
returns-clause-unseen c =
    if_ok (λ (x : Shown). AreFirst c.self.inside.held c.args.sub c.args.max x.items x.passed)
    (λ (x : Shown). AreUnseen c.args.self.now c.args.sub x.items x.passed) c.first_unseen.result
    (λ x first. subst (λ (v : ContentRecord). AreUnseen v c.args.sub x.items x.passed) c.self.view_is
    (are_unseen c.self.inside.held c.self.inside.subscriptions c.args.sub c.self.inside.journal c.self.inside.stamp x.items x.passed
    first.shown)) (subst
    (λ h. IfOk c.first_unseen.result (λ (x : Shown). AreFirst h c.args.sub c.args.max x.items x.passed)) c.marked.ensures
    c.first_unseen.ensures.first)

pub returns-clause-rest : goal.returns-clause-rest
returns-clause-rest c =
    if_ok (λ (x : Shown). IsRestOf c.self.inside.held c.args.sub x.passed x.more)
    (λ (x : Shown). IsRest c.args.self.now c.args.sub x.passed x.more) c.first_unseen.result
    (λ x rest. subst (λ (v : ContentRecord). IsRest v c.args.sub x.passed x.more) c.self.view_is
    (is_rest c.self.inside.held c.self.inside.subscriptions c.args.sub c.self.inside.journal c.self.inside.stamp x.passed x.more rest))
    (subst
    (λ h. IfOk c.first_unseen.result (λ (x : Shown). IsRestOf h c.args.sub x.passed x.more)) c.marked.ensures c.first_unseen.ensures.rest)

pub returns-clause-first : goal.returns-clause-first
returns-clause-first c = λ s seer stands here.
    if_ok (λ (x : Shown). AreFirst c.self.inside.held c.args.sub c.args.max x.items x.passed)
    (λ (x : Shown). x.items ≡ take c.args.max (unseen s seer)) c.first_unseen.result
    (λ x first. first_are c.self.inside.held c.args.sub c.args.max x.items x.passed first
    ∙ ap (take c.args.max) (to_show c.self.inside.held c.self.inside.subscriptions c.args.sub c.held-held.ensures.sound
    c.self.inside.journal c.self.inside.stamp s
    (subst (λ (v : ContentRecord). ContentStands v s) (sym c.self.view_is) stands) seer here)) (subst (λ h. IfOk c.first_unseen.result
    (λ (x : Shown). AreFirst h c.args.sub c.args.max x.items x.passed)) c.marked.ensures c.first_unseen.ensures.first)

pub returns-clause-refused : goal.returns-clause-refused
returns-clause-refused c = λ s seer stands here.
    if_err c.first_unseen.result (some_to_show c.self.inside.held c.self.inside.subscriptions c.args.sub c.held-held.ensures.sound
    c.self.inside.journal c.self.inside.stamp s
    (subst (λ (v : ContentRecord). ContentStands v s) (sym c.self.view_is) stands) seer here) (subst
    (λ h. OnErr c.first_unseen.result (list_any (is_to_show h c.args.sub) (held_items h.held) ≡ true)) c.marked.ensures
    c.first_unseen.ensures.refused)
