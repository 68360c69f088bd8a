use Rattle.std.proofs.Common.{Ok, Err, sym, ap, subst, ◌∙◌}
use Rattle.ds_held.specs.Held.{held_changes, held_for}
use Rattle.ds_held.specs.Kept.{IsPlace}
use Rattle.ds_index.specs.Marked.{mark_for}
use Rattle.ds_index.proofs.MarkLemmas.{held_found, held_missing, mark_found, mark_missing}
use Rattle.ds_index.proofs.marked.Marked.get_at.Goals as goal

pub returns-in-Ok-clause-change : goal.returns-in-Ok-clause-change
returns-in-Ok-clause-change g c = λ key at.
    let here : IsPlace (held_changes c.self.inside.held) key (Ok c.in-Ok.index) =
    subst (λ h. IsPlace (held_changes h.held) key (Ok c.in-Ok.index)) (sym c.self.view_is)
    (subst (λ p. IsPlace (held_changes c.args.self.now.held) key p) c.in-Ok.is at) in
    c.pair_at.ensures.change ∙ sym (held_found c.self.inside.held c.self.invariant.0.sound key c.in-Ok.index here) ∙
    ap (λ h. held_for h.held key) c.self.view_is

pub returns-in-Ok-clause-mark : goal.returns-in-Ok-clause-mark
returns-in-Ok-clause-mark g c = λ key at.
    let here : IsPlace (held_changes c.self.inside.held) key (Ok c.in-Ok.index) =
    subst (λ h. IsPlace (held_changes h.held) key (Ok c.in-Ok.index)) (sym c.self.view_is)
    (subst (λ p. IsPlace (held_changes c.args.self.now.held) key p) c.in-Ok.is at) in
    c.pair_at.ensures.mark ∙ sym (mark_found c.self.inside.held c.self.inside.marks c.self.invariant.0 key c.in-Ok.index here) ∙
    ap (λ h. mark_for h key) c.self.view_is

pub returns-in-Err-clause-change : goal.returns-in-Err-clause-change
returns-in-Err-clause-change g c = λ key at.
    let gap : IsPlace (held_changes c.self.inside.held) key (Err c.in-Err.field-0) =
    subst (λ h. IsPlace (held_changes h.held) key (Err c.in-Err.field-0)) (sym c.self.view_is)
    (subst (λ p. IsPlace (held_changes c.args.self.now.held) key p) c.in-Err.is at) in
    sym (held_missing c.self.inside.held c.self.invariant.0.sound key c.in-Err.field-0 gap) ∙ ap (λ h. held_for h.held key) c.self.view_is

pub returns-in-Err-clause-mark : goal.returns-in-Err-clause-mark
returns-in-Err-clause-mark g c = λ key at.
    let gap : IsPlace (held_changes c.self.inside.held) key (Err c.in-Err.field-0) =
    subst (λ h. IsPlace (held_changes h.held) key (Err c.in-Err.field-0)) (sym c.self.view_is)
    (subst (λ p. IsPlace (held_changes c.args.self.now.held) key p) c.in-Err.is at) in
    sym (mark_missing c.self.inside.held c.self.inside.marks c.self.invariant.0 key c.in-Err.field-0 gap) ∙
    ap (λ h. mark_for h key) c.self.view_is
