use Rattle.std.proofs.Common.{◌+◌, ◌++◌, ap, ap₂, sym, ◌∙◌, subst, inl, arith}
use Rattle.ds_machine.specs.State.{subscribes}
use Rattle.ds_machine.specs.Watching.{checking}
use Rattle.ds_machine.specs.Machine.{Answers}
use Rattle.ds_machine.specs.declared.refusal.Refusal.{Refusal}
use Rattle.ds_machine.specs.declared.reply.Reply.TheVariants.{Refused}
use Rattle.ds_machine.specs.declared.command.Command.TheVariants.{Check}
use Rattle.ds_store.specs.Cases.{refusal_of_showing}
use Rattle.ds_store.specs.Last.{IsLast}
use Rattle.ds_content.specs.Content.{ContentRecord}
use Rattle.ds_content.specs.Stands.{ContentStands}
use Rattle.ds_store.proofs.WatchLemmas.{stamp_at, is_shown, check_first, begun, some_is, no_items, some_items, are_some, check_refused}
use Rattle.ds_store.proofs.WatchLemmas.{check_short, short_last, check_empty, check_done}
use Rattle.ds_store.proofs.store.Store.check.Goals as goal

pub returns-in-Err-clause-step : goal.returns-in-Err-clause-step
returns-in-Err-clause-step c = λ s stands.
    let v = c.self.inside.content.value in
    let here : ContentStands v s = subst (λ (x : ContentRecord). ContentStands x s) (sym c.self.view_is) stands in
    let places = c.subs.ensures.count ∙ ap (λ l. l.subs) (c.limits.ensures ∙ ap (λ (x : ContentRecord). x.limits) c.deref.ensures) in
    let last = c.stamp_of.ensures ∙ ap (λ (x : ContentRecord). stamp_at x c.args.sub) c.deref-2.ensures in (
      s,
      inl (check_first v s c.args.sub c.args.max c.subs.result c.stamp_of.result here places last c.in-Err.refusal
          c.in-Err.ensures.refused),
      stands,
    )

pub returns-in_default-clause-step : goal.returns-in_default-clause-step
returns-in_default-clause-step c = λ s stands.
    let v = c.self.inside.content.value in
    let here : ContentStands v s = subst (λ (x : ContentRecord). ContentStands x s) (sym c.self.view_is) stands in
    let then : ContentStands c.deref-4.result.now s = subst (λ (x : ContentRecord). ContentStands x s) (sym c.deref-4.ensures) here in
    let places = c.subs.ensures.count ∙ ap (λ l. l.subs) (c.limits.ensures ∙ ap (λ (x : ContentRecord). x.limits) c.deref.ensures) in
    let last = c.stamp_of.ensures ∙ ap (λ (x : ContentRecord). stamp_at x c.args.sub) c.deref-2.ensures in
    let b = begun v s c.args.sub c.args.max c.subs.result c.stamp_of.result here places last c.in-Ok.before c.in-Ok.ensures.checkable.made
    c.in-Ok.ensures.none in
    let stamp = c.stamp-stamp.ensures.value ∙ ap (λ (x : ContentRecord). x.stamp) c.deref-3.ensures ∙ here.stamp in
    let shown = c.in_default.ensures.refused s b.seer then b.here in
    let worn = b.left ∙ ap₂ refusal_of_showing shown (sym stamp) ∙ sym c.refusal_of_showing-worn.ensures.value in (
      s,
      subst (λ (r : Refusal). Answers s (checking s c.args.sub c.args.max) (Refused r) s) (sym c.unwrap_or.ensures)
          (check_short s c.args.sub c.args.max c.refusal_of_showing-worn.result worn),
      stands,
    )

pub returns-in_default-clause-last : goal.returns-in_default-clause-last
returns-in_default-clause-last c = λ s stands.
    let v = c.self.inside.content.value in
    let here : ContentStands v s = subst (λ (x : ContentRecord). ContentStands x s) (sym c.self.view_is) stands in
    let then : ContentStands c.deref-4.result.now s = subst (λ (x : ContentRecord). ContentStands x s) (sym c.deref-4.ensures) here in
    let places = c.subs.ensures.count ∙ ap (λ l. l.subs) (c.limits.ensures ∙ ap (λ (x : ContentRecord). x.limits) c.deref.ensures) in
    let last = c.stamp_of.ensures ∙ ap (λ (x : ContentRecord). stamp_at x c.args.sub) c.deref-2.ensures in
    let b = begun v s c.args.sub c.args.max c.subs.result c.stamp_of.result here places last c.in-Ok.before c.in-Ok.ensures.checkable.made
    c.in-Ok.ensures.none in
    let stamp = c.stamp-stamp.ensures.value ∙ ap (λ (x : ContentRecord). x.stamp) c.deref-3.ensures ∙ here.stamp in
    let shown = c.in_default.ensures.refused s b.seer then b.here in
    let worn = b.left ∙ ap₂ refusal_of_showing shown (sym stamp) ∙ sym c.refusal_of_showing-worn.ensures.value in
    subst (λ (r : Refusal). IsLast s (Check c.args.sub c.args.max) (Refused r)) (sym c.unwrap_or.ensures)
    (short_last s c.args.sub c.args.max c.refusal_of_showing-worn.result (ap (is_shown s) b.here ∙ shown) worn)

pub returns-then-count-eq0-clause-step : goal.returns-then-count-eq0-clause-step
returns-then-count-eq0-clause-step c = λ s stands.
    let v = c.self.inside.content.value in
    let here : ContentStands v s = subst (λ (x : ContentRecord). ContentStands x s) (sym c.self.view_is) stands in
    let then : ContentStands c.deref-4.result.now s = subst (λ (x : ContentRecord). ContentStands x s) (sym c.deref-4.ensures) here in
    let places = c.subs.ensures.count ∙ ap (λ l. l.subs) (c.limits.ensures ∙ ap (λ (x : ContentRecord). x.limits) c.deref.ensures) in
    let last = c.stamp_of.ensures ∙ ap (λ (x : ContentRecord). stamp_at x c.args.sub) c.deref-2.ensures in
    let b = begun v s c.args.sub c.args.max c.subs.result c.stamp_of.result here places last c.in-Ok.before c.in-Ok.ensures.checkable.made
    c.in-Ok.ensures.none in
    let items = c.in-Ok-first_unseen.ensures.first s b.seer then b.here in
    let empty = no_items c.in-Ok-first_unseen.shown.items (sym c.len-count.ensures ∙ c.if-count-eq0.true) in
    let has = sym (some_is s b.seer c.args.max c.in-Ok-first_unseen.shown.items c.in-Ok.ensures.checkable.some items) in
    let none = b.left ∙ ap (λ x. refusal_of_showing x s.stamp) (has ∙ ap are_some empty) in (
      s,
      inl (check_empty s c.args.sub c.args.max b.seer b.here c.in-Ok.before c.in-Ok-first_unseen.shown.items none items empty
          b.stamp_is),
      stands,
    )

pub returns-in-Some-clause-step : goal.returns-in-Some-clause-step
returns-in-Some-clause-step c = λ s stands.
    let v = c.self.inside.content.value in
    let here : ContentStands v s = subst (λ (x : ContentRecord). ContentStands x s) (sym c.self.view_is) stands in
    let then : ContentStands c.deref-4.result.now s = subst (λ (x : ContentRecord). ContentStands x s) (sym c.deref-4.ensures) here in
    let places = c.subs.ensures.count ∙ ap (λ l. l.subs) (c.limits.ensures ∙ ap (λ (x : ContentRecord). x.limits) c.deref.ensures) in
    let last = c.stamp_of.ensures ∙ ap (λ (x : ContentRecord). stamp_at x c.args.sub) c.deref-2.ensures in
    let b = begun v s c.args.sub c.args.max c.subs.result c.stamp_of.result here places last c.in-Ok.before c.in-Ok.ensures.checkable.made
    c.in-Ok.ensures.none in
    let stamp = c.stamp-stamp.ensures.value ∙ ap (λ (x : ContentRecord). x.stamp) c.deref-3.ensures ∙ here.stamp in
    let items = c.in-Ok-first_unseen.ensures.first s b.seer then b.here in
    let some = some_items c.in-Ok-first_unseen.shown.items (omega (arith, c.len-count.ensures, c.if-count-eq0.false)) in
    let has = sym (some_is s b.seer c.args.max c.in-Ok-first_unseen.shown.items c.in-Ok.ensures.checkable.some items) in
    let worn = b.left ∙ ap₂ refusal_of_showing (has ∙ some) (sym stamp) ∙ sym c.refusal_of_showing.ensures.value ∙ c.in-Some.is in
    (s, inl (check_refused s c.args.sub c.args.max c.in-Some.refusal worn), stands)

pub returns-clause-step : goal.returns-clause-step
returns-clause-step c = λ s stands.
    let v = c.self.inside.content.value in
    let here : ContentStands v s = subst (λ (x : ContentRecord). ContentStands x s) (sym c.self.view_is) stands in
    let then : ContentStands c.deref-4.result.now s = subst (λ (x : ContentRecord). ContentStands x s) (sym c.deref-4.ensures) here in
    let places = c.subs.ensures.count ∙ ap (λ l. l.subs) (c.limits.ensures ∙ ap (λ (x : ContentRecord). x.limits) c.deref.ensures) in
    let last = c.stamp_of.ensures ∙ ap (λ (x : ContentRecord). stamp_at x c.args.sub) c.deref-2.ensures in
    let b = begun v s c.args.sub c.args.max c.subs.result c.stamp_of.result here places last c.in-Ok.before c.in-Ok.ensures.checkable.made
    c.in-Ok.ensures.none in
    let stamp = c.stamp-stamp.ensures.value ∙ ap (λ (x : ContentRecord). x.stamp) c.deref-3.ensures ∙ here.stamp in
    let items = c.in-Ok-first_unseen.ensures.first s b.seer then b.here in
    let some = some_items c.in-Ok-first_unseen.shown.items (omega (arith, c.len-count.ensures, c.if-count-eq0.false)) in
    let has = sym (some_is s b.seer c.args.max c.in-Ok-first_unseen.shown.items c.in-Ok.ensures.checkable.some items) in
    let none = b.left ∙ ap₂ refusal_of_showing (has ∙ some) (sym stamp) ∙ sym c.refusal_of_showing.ensures.value ∙
    c.in_default-refusal_of_showing.is in (
      subscribes s c.args.sub b.seer.query (b.seer.shown ++ c.in-Ok-first_unseen.shown.items),
      inl (check_done s c.args.sub c.args.max b.seer b.here c.in-Ok.before (c.stamp-stamp.result + 1) c.in-Ok-first_unseen.shown.items none
          items some b.stamp_is (ap (λ n. n + 1) stamp)),
      c.show.ensures s b.seer (subst (λ (x : ContentRecord). ContentStands x s) (sym c.deref_mut.ensures.value) here) b.here,
    )
