use Rattle.std.proofs.Common.{◌≡◌, ◌++◌, map, sym, ap, ◌∙◌, subst}
use Rattle.std.specs.Result.{OnOk, IfErr}
use Rattle.ds_held.specs.Held.{held_items, change_item}
use Rattle.ds_held.specs.Join.{AreMerged, IsJoinStopped}
use Rattle.ds_held.specs.Kept.{floored}
use Rattle.ds_held.proofs.KeptLemmas.{items_are}
use Rattle.ds_held.proofs.JoinLemmas.{join_if_ok, join_if_stopped, sound_then}
use Rattle.ds_held.proofs.held.Held.join.Goals as goal

pub returns-clause-each : goal.returns-clause-each
returns-clause-each c =
    let items : map floored c.deref.result.now ++ map change_item c.other.inside.changes ≡ held_items c.args.other.now =
    ap (λ fs. map floored fs ++ map change_item c.other.inside.changes) c.deref.ensures.value
    ∙ sym (items_are c.other.inside.floors.items c.other.inside.changes c.other.inside.limits c.other.invariant.owners
    c.other.invariant.keys) ∙ ap held_items c.other.view_is in
    subst (λ l. OnOk c.join_into.result (AreMerged c.args.self.now l c.join_into.new.held)) items c.join_into.ensures.merged

pub returns-clause-stopped : goal.returns-clause-stopped
returns-clause-stopped c =
    let items : map floored c.deref.result.now ++ map change_item c.other.inside.changes ≡ held_items c.args.other.now =
    ap (λ fs. map floored fs ++ map change_item c.other.inside.changes) c.deref.ensures.value
    ∙ sym (items_are c.other.inside.floors.items c.other.inside.changes c.other.inside.limits c.other.invariant.owners
    c.other.invariant.keys) ∙ ap held_items c.other.view_is in
    subst (λ l. IfErr c.join_into.result (IsJoinStopped c.args.self.now l c.join_into.new.held)) items c.join_into.ensures.stopped

pub returns-clause-joined : goal.returns-clause-joined
returns-clause-joined c =
    let items : map floored c.deref.result.now ++ map change_item c.other.inside.changes ≡ held_items c.args.other.now =
    ap (λ fs. map floored fs ++ map change_item c.other.inside.changes) c.deref.ensures.value
    ∙ sym (items_are c.other.inside.floors.items c.other.inside.changes c.other.inside.limits c.other.invariant.owners
    c.other.invariant.keys) ∙ ap held_items c.other.view_is in
    join_if_ok c.join_into.result c.args.self.now (held_items c.args.other.now) c.join_into.new.held c.len-count.ensures.sound
    (subst (λ l. OnOk c.join_into.result (AreMerged c.args.self.now l c.join_into.new.held)) items c.join_into.ensures.merged)

pub returns-clause-kept : goal.returns-clause-kept
returns-clause-kept c =
    let items : map floored c.deref.result.now ++ map change_item c.other.inside.changes ≡ held_items c.args.other.now =
    ap (λ fs. map floored fs ++ map change_item c.other.inside.changes) c.deref.ensures.value
    ∙ sym (items_are c.other.inside.floors.items c.other.inside.changes c.other.inside.limits c.other.invariant.owners
    c.other.invariant.keys) ∙ ap held_items c.other.view_is in
    join_if_stopped c.join_into.result c.args.self.now (held_items c.args.other.now) c.join_into.new.held c.len-count.ensures.sound
    (subst (λ l. IfErr c.join_into.result (IsJoinStopped c.args.self.now l c.join_into.new.held)) items c.join_into.ensures.stopped)

pub returns-clause-sound : goal.returns-clause-sound
returns-clause-sound c = sound_then c.join_into.result c.args.self.now _ c.join_into.new.held c.len-count.ensures.sound
    c.join_into.ensures.merged c.join_into.ensures.stopped
