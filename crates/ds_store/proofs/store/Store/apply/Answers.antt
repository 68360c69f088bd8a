use Rattle.std.proofs.Common.{sym, ap, inl, subst, ◌∙◌}
use Rattle.ds_entry.specs.declared.body.Body.TheVariants.{Gone}
use Rattle.ds_machine.specs.declared.command.Command.{Command}
use Rattle.ds_machine.specs.declared.command.Command.TheVariants.{Delete, Sweep, Subscribe, Check, Since, Snapshot, Page, Merge}
use Rattle.ds_machine.specs.Asking.{AskedChange}
use Rattle.ds_machine.specs.Machine.{Answers, Step, asking, outcome}
use Rattle.ds_machine.specs.Says.{IsReplyTo}
use Rattle.ds_machine.proofs.FitLemmas.{replies_fit}
use Rattle.ds_store.specs.Last.{IsLast, MayLackAsked}
use Rattle.ds_store.proofs.AnswerLemmas.{asked_last}
use Rattle.ds_store.proofs.store.Store.apply.Goals as goal

pub returns-in-Publish-clause-step : goal.returns-in-Publish-clause-step
returns-in-Publish-clause-step c = λ s stands.
    let r = c.publish.ensures.step s stands in
    (r.0, subst (λ (x : Command). Step s x c.publish.result r.0) (sym c.in-Publish.is) r.1, r.2)

pub returns-in-Delete-clause-step : goal.returns-in-Delete-clause-step
returns-in-Delete-clause-step c = λ s stands.
    let r = c.ask.ensures.step s stands in (
      r.0,
      inl (subst (λ (x : Command). Answers s (outcome s x) c.ask.result r.0) (sym c.in-Delete.is)
          (subst (λ (a : AskedChange). Answers s (asking s a Gone) c.ask.result r.0) c.deleted.ensures r.1)),
      r.2,
    )

pub returns-in-Sweep-clause-step : goal.returns-in-Sweep-clause-step
returns-in-Sweep-clause-step c = λ s stands.
    let r = c.sweep.ensures.step s stands in
    (r.0, inl (subst (λ (x : Command). Answers s (outcome s x) c.sweep.result r.0) (sym c.in-Sweep.is) r.1), r.2)

pub returns-in-Subscribe-clause-step : goal.returns-in-Subscribe-clause-step
returns-in-Subscribe-clause-step c = λ s stands.
    let r = c.subscribe.ensures.step s stands in
    (r.0, inl (subst (λ (x : Command). Answers s (outcome s x) c.subscribe.result r.0) (sym c.in-Subscribe.is) r.1), r.2)

pub returns-in-Check-clause-step : goal.returns-in-Check-clause-step
returns-in-Check-clause-step c = λ s stands.
    let r = c.check.ensures.step s stands in
    (r.0, inl (subst (λ (x : Command). Answers s (outcome s x) c.check.result r.0) (sym c.in-Check.is) r.1), r.2)

pub returns-in-Retrieve-clause-step : goal.returns-in-Retrieve-clause-step
returns-in-Retrieve-clause-step c = λ s stands.
    let r = c.retrieve.ensures.step s stands in
    (r.0, subst (λ (x : Command). Step s x c.retrieve.result r.0) (sym c.in-Retrieve.is) r.1, r.2)

pub returns-in-NameOf-clause-step : goal.returns-in-NameOf-clause-step
returns-in-NameOf-clause-step c = λ s stands.
    let r = c.name_of.ensures.step s stands in
    (r.0, subst (λ (x : Command). Step s x c.name_of.result r.0) (sym c.in-NameOf.is) r.1, r.2)

pub returns-in-Since-clause-step : goal.returns-in-Since-clause-step
returns-in-Since-clause-step c = λ s stands. (
  s,
  inl (subst (λ (x : Command). Answers s (outcome s x) c.since.result s) (sym c.in-Since.is) (c.since.ensures.answer s stands)),
  stands,
)

pub returns-in-Snapshot-clause-step : goal.returns-in-Snapshot-clause-step
returns-in-Snapshot-clause-step c = λ s stands. (
  s,
  inl (subst (λ (x : Command). Answers s (outcome s x) c.snapshot.result s) (sym c.in-Snapshot.is)
      (c.snapshot.ensures.answer s stands)),
  stands,
)

pub returns-in-Page-clause-step : goal.returns-in-Page-clause-step
returns-in-Page-clause-step c = λ s stands.
    (s, inl (subst (λ (x : Command). Answers s (outcome s x) c.page.result s) (sym c.in-Page.is) (c.page.ensures.answer s stands)), stands)

pub returns-in-Merge-clause-step : goal.returns-in-Merge-clause-step
returns-in-Merge-clause-step c = λ s stands.
    let r = c.fast_merge.ensures.step s stands in
    (r.0, subst (λ (x : Command). Step s x c.fast_merge.result r.0) (ap (λ l. Merge l) c.as_slice.ensures ∙ sym c.in-Merge.is) r.1, r.2)

-- where lack of memory is reported
pub returns-in-Publish-clause-last : goal.returns-in-Publish-clause-last
returns-in-Publish-clause-last c = λ s stands.
    subst (λ (x : Command). IsLast s x c.publish.result) (sym c.in-Publish.is) (c.publish.ensures.last s stands)

pub returns-in-Delete-clause-last : goal.returns-in-Delete-clause-last
returns-in-Delete-clause-last c = λ s stands.
    let command : Command = Delete c.in-Delete.caller c.in-Delete.key c.in-Delete.version in
    let r = c.ask.ensures.step s stands in
    let of : Answers s (outcome s command) c.ask.result r.0 =
    subst (λ (a : AskedChange). Answers s (asking s a Gone) c.ask.result r.0) c.deleted.ensures r.1 in
    subst (λ (x : Command). IsLast s x c.ask.result) (sym c.in-Delete.is)
    (asked_last s command c.ask.result (replies_fit s r.0 command c.ask.result (inl of))
    (λ e. subst (λ (a : AskedChange). MayLackAsked s a Gone) c.deleted.ensures (c.ask.ensures.last e s stands)))

pub returns-in-Sweep-clause-last : goal.returns-in-Sweep-clause-last
returns-in-Sweep-clause-last c = λ s stands.
    subst (λ (x : Command). IsLast s x c.sweep.result) (sym c.in-Sweep.is) (c.sweep.ensures.last s stands)

pub returns-in-Retrieve-clause-last : goal.returns-in-Retrieve-clause-last
returns-in-Retrieve-clause-last c = λ s stands.
    subst (λ (x : Command). IsLast s x c.retrieve.result) (sym c.in-Retrieve.is) (c.retrieve.ensures.last s stands)

pub returns-in-Subscribe-clause-last : goal.returns-in-Subscribe-clause-last
returns-in-Subscribe-clause-last c = λ s stands.
    subst (λ (x : Command). IsLast s x c.subscribe.result) (sym c.in-Subscribe.is) (c.subscribe.ensures.last s stands)

pub returns-in-Check-clause-last : goal.returns-in-Check-clause-last
returns-in-Check-clause-last c = λ s stands.
    subst (λ (x : Command). IsLast s x c.check.result) (sym c.in-Check.is) (c.check.ensures.last s stands)

pub returns-in-Since-clause-last : goal.returns-in-Since-clause-last
returns-in-Since-clause-last c = λ s stands.
    subst (λ (x : Command). IsLast s x c.since.result) (sym c.in-Since.is) (c.since.ensures.last s stands)

pub returns-in-Snapshot-clause-last : goal.returns-in-Snapshot-clause-last
returns-in-Snapshot-clause-last c = λ s stands.
    subst (λ (x : Command). IsLast s x c.snapshot.result) (sym c.in-Snapshot.is) (c.snapshot.ensures.last s stands)

pub returns-in-Page-clause-last : goal.returns-in-Page-clause-last
returns-in-Page-clause-last c = λ s stands.
    subst (λ (x : Command). IsLast s x c.page.result) (sym c.in-Page.is) (c.page.ensures.last s stands)

pub returns-in-Merge-clause-last : goal.returns-in-Merge-clause-last
returns-in-Merge-clause-last c = λ s stands.
    subst (λ (x : Command). IsLast s x c.fast_merge.result) (ap (λ l. Merge l) c.as_slice.ensures ∙ sym c.in-Merge.is)
    (c.fast_merge.ensures.last s stands)

pub returns-in-NameOf-clause-last : goal.returns-in-NameOf-clause-last
returns-in-NameOf-clause-last c = λ s stands.
    subst (λ (x : Command). IsLast s x c.name_of.result) (sym c.in-NameOf.is) (c.name_of.ensures.last s stands)

-- the reply is one of a step from the state that the store stands for
pub returns-in-Publish-clause-fits : goal.returns-in-Publish-clause-fits
returns-in-Publish-clause-fits c = subst (λ (x : Command). IsReplyTo x c.publish.result) (sym c.in-Publish.is) c.publish.ensures.fits

pub returns-in-Delete-clause-fits : goal.returns-in-Delete-clause-fits
returns-in-Delete-clause-fits c =
    let at = c.cursor-stood.ensures.stood in
    let r = c.ask.ensures.step at.0 at.1 in
    let command : Command = Delete c.in-Delete.caller c.in-Delete.key c.in-Delete.version in
    let of : Answers at.0 (outcome at.0 command) c.ask.result r.0 =
    subst (λ (a : AskedChange). Answers at.0 (asking at.0 a Gone) c.ask.result r.0) c.deleted.ensures r.1 in
    subst (λ (x : Command). IsReplyTo x c.ask.result) (sym c.in-Delete.is) (replies_fit at.0 r.0 command c.ask.result (inl of))

pub returns-in-Sweep-clause-fits : goal.returns-in-Sweep-clause-fits
returns-in-Sweep-clause-fits c =
    let at = c.cursor-stood.ensures.stood in
    let r = c.sweep.ensures.step at.0 at.1 in
    subst (λ (x : Command). IsReplyTo x c.sweep.result) (sym c.in-Sweep.is)
    (replies_fit at.0 r.0 (Sweep c.in-Sweep.caller c.in-Sweep.owner c.in-Sweep.generation) c.sweep.result (inl r.1))

pub returns-in-Subscribe-clause-fits : goal.returns-in-Subscribe-clause-fits
returns-in-Subscribe-clause-fits c =
    let at = c.cursor-stood.ensures.stood in
    let r = c.subscribe.ensures.step at.0 at.1 in
    subst (λ (x : Command). IsReplyTo x c.subscribe.result) (sym c.in-Subscribe.is)
    (replies_fit at.0 r.0 (Subscribe c.in-Subscribe.sub c.in-Subscribe.query c.in-Subscribe.initial c.in-Subscribe.overwrite)
    c.subscribe.result (inl r.1))

pub returns-in-Check-clause-fits : goal.returns-in-Check-clause-fits
returns-in-Check-clause-fits c =
    let at = c.cursor-stood.ensures.stood in
    let r = c.check.ensures.step at.0 at.1 in
    subst (λ (x : Command). IsReplyTo x c.check.result) (sym c.in-Check.is)
    (replies_fit at.0 r.0 (Check c.in-Check.sub c.in-Check.max) c.check.result (inl r.1))

pub returns-in-Retrieve-clause-fits : goal.returns-in-Retrieve-clause-fits
returns-in-Retrieve-clause-fits c = subst (λ (x : Command). IsReplyTo x c.retrieve.result) (sym c.in-Retrieve.is) c.retrieve.ensures.fits

pub returns-in-NameOf-clause-fits : goal.returns-in-NameOf-clause-fits
returns-in-NameOf-clause-fits c = subst (λ (x : Command). IsReplyTo x c.name_of.result) (sym c.in-NameOf.is) c.name_of.ensures.fits

pub returns-in-Since-clause-fits : goal.returns-in-Since-clause-fits
returns-in-Since-clause-fits c =
    let at = c.cursor-stood.ensures.stood in
    subst (λ (x : Command). IsReplyTo x c.since.result) (sym c.in-Since.is)
    (replies_fit at.0 at.0 (Since c.in-Since.scope c.in-Since.cursor c.in-Since.max) c.since.result
    (inl (c.since.ensures.answer at.0 at.1)))

pub returns-in-Snapshot-clause-fits : goal.returns-in-Snapshot-clause-fits
returns-in-Snapshot-clause-fits c =
    let at = c.cursor-stood.ensures.stood in
    subst (λ (x : Command). IsReplyTo x c.snapshot.result) (sym c.in-Snapshot.is)
    (replies_fit at.0 at.0 (Snapshot c.in-Snapshot.scope) c.snapshot.result (inl (c.snapshot.ensures.answer at.0 at.1)))

pub returns-in-Page-clause-fits : goal.returns-in-Page-clause-fits
returns-in-Page-clause-fits c =
    let at = c.cursor-stood.ensures.stood in
    subst (λ (x : Command). IsReplyTo x c.page.result) (sym c.in-Page.is)
    (replies_fit at.0 at.0 (Page c.in-Page.scope c.in-Page.after c.in-Page.max) c.page.result (inl (c.page.ensures.answer at.0 at.1)))

pub returns-in-Merge-clause-fits : goal.returns-in-Merge-clause-fits
returns-in-Merge-clause-fits c = subst (λ (x : Command). IsReplyTo x c.fast_merge.result)
    (ap (λ l. Merge l) c.as_slice.ensures ∙ sym c.in-Merge.is) c.fast_merge.ensures.fits
