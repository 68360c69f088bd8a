use Rattle.std.proofs.Common.{ap, sym, ◌∙◌, subst}
use Rattle.ds_held.specs.Held.{held_changes, held_for, IsSound}
use Rattle.ds_held.specs.Kept.{IsPlace}
use Rattle.ds_machine.specs.Parts.{changes_in, held_at}
use Rattle.ds_content.specs.Content.{ContentRecord}
use Rattle.ds_content.proofs.HoldingLemmas.{changes_are, held_at-is}
use Rattle.ds_content.proofs.content.Content.get_at.Goals as goal

pub returns-in-Some-clause-value : goal.returns-in-Some-clause-value
returns-in-Some-clause-value c = λ key at.
    let here : IsPlace (held_changes c.self.inside.held.held) key c.args.place =
    subst (λ l. IsPlace l key c.args.place) (changes_are c.self.inside.held.held)
    (subst (λ (v : ContentRecord). IsPlace (changes_in v.held) key c.args.place) (sym c.self.view_is) at) in
    c.in-Some.ensures.change key (subst (λ h. IsPlace (held_changes h.held) key c.args.place) (sym c.marked.ensures) here) ∙
    ap (λ h. held_for h.held key) c.marked.ensures
    ∙ sym (held_at-is c.self.inside.held.held (subst (λ h. IsSound h.held) c.marked.ensures c.get_at.ensures.sound) key) ∙
    ap (λ (v : ContentRecord). held_at v.held key) c.self.view_is

pub returns-in-None-clause-value : goal.returns-in-None-clause-value
returns-in-None-clause-value c = λ key at.
    let here : IsPlace (held_changes c.self.inside.held.held) key c.args.place =
    subst (λ l. IsPlace l key c.args.place) (changes_are c.self.inside.held.held)
    (subst (λ (v : ContentRecord). IsPlace (changes_in v.held) key c.args.place) (sym c.self.view_is) at) in
    c.in-None.ensures.change key (subst (λ h. IsPlace (held_changes h.held) key c.args.place) (sym c.marked.ensures) here) ∙
    ap (λ h. held_for h.held key) c.marked.ensures
    ∙ sym (held_at-is c.self.inside.held.held (subst (λ h. IsSound h.held) c.marked.ensures c.get_at.ensures.sound) key) ∙
    ap (λ (v : ContentRecord). held_at v.held key) c.self.view_is
