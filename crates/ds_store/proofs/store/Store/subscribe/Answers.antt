use Rattle.std.proofs.Common.{◌≡◌, None, Err, ◌+◌, ◌^◌, ◌&&◌, cond, ap, sym, ◌∙◌, subst, inr, refl}
use Rattle.std.specs.List.{find, list_any}
use Rattle.ds_pattern.specs.declared.query.Query.{Query}
use Rattle.ds_machine.specs.Calling.{SubscribeCase, against_subscribe}
use Rattle.ds_machine.specs.State.{subscribes}
use Rattle.ds_machine.specs.Watching.{subscribing, shown_at_first}
use Rattle.ds_machine.specs.Machine.{Answers}
use Rattle.ds_machine.specs.declared.command.Command.TheVariants.{Subscribe}
use Rattle.ds_machine.specs.declared.reply.Reply.{Reply}
use Rattle.ds_store.specs.Last.{before_patterns}
use Rattle.ds_content.specs.Content.{ContentRecord}
use Rattle.ds_content.specs.Stands.{ContentStands}
use Rattle.ds_store.proofs.ReadingLemmas.{refused_last}
use Rattle.ds_store.proofs.WatchLemmas.{taken_is, subscribe_of, subscribe_same, subscribe_refused, subscribe_made}
use Rattle.ds_store.proofs.store.Store.subscribe.Goals as goal
use Rattle.ds_store.proofs.store.Store.subscribe.Goals.{in-Ok-subscribe, in-Err-subscribe}
use Rattle.ds_pattern.specs.Under.{is_under}
use Rattle.ds_entry.specs.Item.{passes}

pub returns-in-Err-clause-step : goal.returns-in-Err-clause-step
returns-in-Err-clause-step c = λ s stands.
    let sub = c.args.sub in
    let query = c.args.query.now in
    let here : ContentStands c.self.inside.content.value s = subst (λ (x : ContentRecord). ContentStands x s) (sym c.self.view_is) stands in
    let there : ContentStands c.deref-3.result.now s = subst (λ (x : ContentRecord). ContentStands x s) (sym c.deref-3.ensures) here in
    let places = c.subs.ensures.count ∙ ap (λ l. l.subs)
    (c.limits.ensures ∙ ap (λ (x : ContentRecord). x.limits) c.deref-2.ensures ∙ here.limits) in
    let taken = c.is_some.ensures ∙ taken_is c.deref-3.result.now s sub c.stamp_of.result there c.stamp_of.ensures in
    let stamp = c.stamp-stamp.ensures.value ∙ ap (λ (x : ContentRecord). x.stamp) c.deref.ensures ∙ here.stamp in
    let same = subscribe_same s sub query c.args.overwrite c.subs.result c.is_some.result c.stamp-stamp.result places taken stamp in
    (s, subscribe_refused s sub query c.args.initial c.args.overwrite _ c.in-Err.refusal same c.in-Err.ensures.refused, stands)

pub returns-in-Err-clause-last : goal.returns-in-Err-clause-last
returns-in-Err-clause-last c = λ s stands.
    let sub = c.args.sub in
    let query = c.args.query.now in
    let here : ContentStands c.self.inside.content.value s = subst (λ (x : ContentRecord). ContentStands x s) (sym c.self.view_is) stands in
    let there : ContentStands c.deref-3.result.now s = subst (λ (x : ContentRecord). ContentStands x s) (sym c.deref-3.ensures) here in
    let places = c.subs.ensures.count ∙ ap (λ l. l.subs)
    (c.limits.ensures ∙ ap (λ (x : ContentRecord). x.limits) c.deref-2.ensures ∙ here.limits) in
    let taken = c.is_some.ensures ∙ taken_is c.deref-3.result.now s sub c.stamp_of.result there c.stamp_of.ensures in
    let stamp = c.stamp-stamp.ensures.value ∙ ap (λ (x : ContentRecord). x.stamp) c.deref.ensures ∙ here.stamp in
    let same = subscribe_same s sub query c.args.overwrite c.subs.result c.is_some.result c.stamp-stamp.result places taken stamp in
    refused_last s (Subscribe sub query c.args.initial c.args.overwrite) c.in-Err.refusal
    (λ e. subst (λ (x : SubscribeCase). find (against_subscribe x) before_patterns ≡ None) same (c.in-Err.ensures.last (ap Err e)))

pub returns-clause-step : goal.returns-clause-step
returns-clause-step c = λ s stands.
    let v = c.self.inside.content.value in
    let sub = c.args.sub in
    let query = c.args.query.now in
    let initial = c.args.initial in
    let here : ContentStands v s = subst (λ (x : ContentRecord). ContentStands x s) (sym c.self.view_is) stands in
    let there : ContentStands c.deref-3.result.now s = subst (λ (x : ContentRecord). ContentStands x s) (sym c.deref-3.ensures) here in
    let places = c.subs.ensures.count ∙ ap (λ l. l.subs)
    (c.limits.ensures ∙ ap (λ (x : ContentRecord). x.limits) c.deref-2.ensures ∙ here.limits) in
    let taken = c.is_some.ensures ∙ taken_is c.deref-3.result.now s sub c.stamp_of.result there c.stamp_of.ensures in
    let case = subscribe_of c.subs.result c.is_some.result c.stamp-stamp.result sub query c.args.overwrite in
    let same = subscribe_same s sub query c.args.overwrite c.subs.result c.is_some.result c.stamp-stamp.result places taken
    (c.stamp-stamp.ensures.value ∙ ap (λ (x : ContentRecord). x.stamp) c.deref.ensures ∙ here.stamp) in
    elim c.match-subscribe.branch [
      | in-Ok-subscribe w ↦
          (let owes = w.own_bit.ensures ∙ ap (λ b. cond (initial && b) (2 ^ sub) 0)
          (w.in-Ok-subscribe.ensures.some ∙ ap (λ (x : ContentRecord). list_any (passes (is_under c.in-Ok.filter)) x.held)
          c.deref_mut.ensures.value ∙
          ap (λ (q : Query). list_any (passes (is_under q)) v.held) c.in-Ok.ensures.value) in (
            subscribes s sub query (shown_at_first v.held initial),
            subst (λ (r : Reply). Answers s (subscribing s sub query initial c.args.overwrite) r
                (subscribes s sub query (shown_at_first v.held initial))) (sym w.result-is)
                (subscribe_made s sub query initial c.args.overwrite v case _ w.own_bit.result here same c.in-Ok.ensures.none
                (ap (λ n. n + 1) (c.stamp-stamp.ensures.value ∙ ap (λ (x : ContentRecord). x.stamp) c.deref.ensures)) owes),
            subst (λ (q : Query). ContentStands c.subscribe.new.self (subscribes s sub q (shown_at_first v.held initial)))
                c.in-Ok.ensures.value
                (subst (λ (x : ContentRecord). ContentStands c.subscribe.new.self
                (subscribes s sub c.in-Ok.filter (shown_at_first x.held initial))) c.deref_mut.ensures.value
                (w.in-Ok-subscribe.ensures.ok s (subst (λ (x : ContentRecord). ContentStands x s) (sym c.deref_mut.ensures.value) here))),
          ))
      | in-Err-subscribe w ↦ (
        s,
        inr (record { reply_is = w.result-is; state_is = refl }),
        subst (λ (x : ContentRecord). ContentStands x s) (sym w.in-Err-subscribe.ensures.err)
            (subst (λ (x : ContentRecord). ContentStands x s) (sym c.deref_mut.ensures.value) here),
      )
    ]
