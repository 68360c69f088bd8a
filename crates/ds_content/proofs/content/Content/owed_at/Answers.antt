use Rattle.std.proofs.Common.{◌≡◌, List, Bool, [], ◌∷◌, None, map, ap, sym, ◌∙◌, subst}
use Rattle.ds_names.specs.declared.key.Key.{Key}
use Rattle.ds_entry.specs.declared.item.Item.TheVariants.{Change as Changed}
use Rattle.ds_held.specs.Held.{held_changes}
use Rattle.ds_held.specs.Kept.{IsPlace}
use Rattle.ds_index.specs.Marked.{mark_for}
use Rattle.ds_machine.specs.Parts.{changes_in, held_at}
use Rattle.ds_machine.specs.Subscription.{is_owed}
use Rattle.ds_watch.specs.Followed.{owed_for}
use Rattle.ds_watch.specs.Mask.{padded}
use Rattle.ds_watch.specs.Watching.{watches}
use Rattle.ds_content.specs.Content.{ContentRecord}
use Rattle.ds_content.proofs.EnterLemmas.{key_view}
use Rattle.ds_content.proofs.HoldingLemmas.{changes_are, held_at-is}
use Rattle.ds_content.proofs.KeptLemmas.{known_owed, not_known}
use Rattle.ds_content.proofs.OpenLemmas.{on_err, if_ok}
use Rattle.ds_content.proofs.OwedLemmas.{key_owed_as}
use Rattle.ds_content.proofs.content.Content.owed_at.Goals as goal

pub returns-in-Some-clause-value : goal.returns-in-Some-clause-value
returns-in-Some-clause-value c =
    let here : IsPlace (held_changes c.self.inside.held.held) c.args.key.now c.args.place =
    subst (λ l. IsPlace l c.args.key.now c.args.place) (changes_are c.self.inside.held.held)
    (subst (λ (v : ContentRecord). IsPlace (changes_in v.held) c.args.key.now c.args.place) (sym c.self.view_is) c.requires) in
    c.under.ensures ∙ known_owed c.self.inside.held c.held-held.ensures.marked c.held-held.ensures.sound c.self.inside.subscriptions
    c.self.invariant.marked c.args.key.now
    c.in-Some.masks.now (sym (c.in-Some.ensures.mark c.args.key.now
    (subst (λ h. IsPlace (held_changes h.held) c.args.key.now c.args.place) (sym c.marked.ensures) here) ∙
    ap (λ h. mark_for h c.args.key.now) c.marked.ensures)) ∙
    key_view c.self.inside.held c.self.inside.journal c.self.inside.stamp c.self.inside.subscriptions c.args.self.now c.self.view_is
    c.args.key.now

pub returns-in-Some-clause-owed : goal.returns-in-Some-clause-owed
returns-in-Some-clause-owed c = λ s x stands e.
    let here : IsPlace (held_changes c.self.inside.held.held) c.args.key.now c.args.place =
    subst (λ l. IsPlace l c.args.key.now c.args.place) (changes_are c.self.inside.held.held)
    (subst (λ (v : ContentRecord). IsPlace (changes_in v.held) c.args.key.now c.args.place) (sym c.self.view_is) c.requires) in
    c.under.ensures ∙ known_owed c.self.inside.held c.held-held.ensures.marked c.held-held.ensures.sound c.self.inside.subscriptions
    c.self.invariant.marked c.args.key.now
    c.in-Some.masks.now (sym (c.in-Some.ensures.mark c.args.key.now
    (subst (λ h. IsPlace (held_changes h.held) c.args.key.now c.args.place) (sym c.marked.ensures) here) ∙
    ap (λ h. mark_for h c.args.key.now) c.marked.ensures)) ∙
    key_view c.self.inside.held c.self.inside.journal c.self.inside.stamp c.self.inside.subscriptions c.args.self.now c.self.view_is
    c.args.key.now
    ∙ ap (λ (k : Key). padded (owed_for k c.args.self.now.subscriptions)) (sym e) ∙ ap padded (key_owed_as c.args.self.now s x stands)

pub returns-in-None-clause-value : goal.returns-in-None-clause-value
returns-in-None-clause-value c =
    if_ok (λ (o : List Bool). o ≡ padded (map (watches c.args.key.now) c.self.inside.subscriptions))
    (λ (o : List Bool). o ≡ padded (owed_for c.args.key.now c.args.self.now.subscriptions)) c.owed.result
    (λ o q. q ∙ key_view c.self.inside.held c.self.inside.journal c.self.inside.stamp c.self.inside.subscriptions c.args.self.now
    c.self.view_is c.args.key.now) c.owed.ensures

pub returns-in-None-clause-owed : goal.returns-in-None-clause-owed
returns-in-None-clause-owed c = λ s x stands e.
    if_ok (λ (o : List Bool). o ≡ padded (map (watches c.args.key.now) c.self.inside.subscriptions))
    (λ (o : List Bool). o ≡ padded (map (is_owed (Changed x ∷ [])) s.subscriptions)) c.owed.result
    (λ o q. q ∙ key_view c.self.inside.held c.self.inside.journal c.self.inside.stamp c.self.inside.subscriptions c.args.self.now
    c.self.view_is c.args.key.now ∙
    ap (λ (k : Key). padded (owed_for k c.args.self.now.subscriptions)) (sym e) ∙
    ap padded (key_owed_as c.args.self.now s x stands)) c.owed.ensures

pub returns-in-None-clause-held : goal.returns-in-None-clause-held
returns-in-None-clause-held c =
    let here : IsPlace (held_changes c.self.inside.held.held) c.args.key.now c.args.place =
    subst (λ l. IsPlace l c.args.key.now c.args.place) (changes_are c.self.inside.held.held)
    (subst (λ (v : ContentRecord). IsPlace (changes_in v.held) c.args.key.now c.args.place) (sym c.self.view_is) c.requires) in
    on_err c.owed.result (held_at c.args.self.now.held c.args.key.now ≡ None)
    (subst (λ (v : ContentRecord). held_at v.held c.args.key.now ≡ None) c.self.view_is
    (held_at-is c.self.inside.held.held c.held-held.ensures.sound c.args.key.now ∙
    not_known c.self.inside.held c.held-held.ensures.marked c.held-held.ensures.sound c.args.key.now
    (sym (c.in-None.ensures.mark c.args.key.now
    (subst (λ h. IsPlace (held_changes h.held) c.args.key.now c.args.place) (sym c.marked.ensures) here) ∙
    ap (λ h. mark_for h c.args.key.now) c.marked.ensures))))
