use Rattle.std.proofs.Common.{◌<◌, ◌≤◌, vec_capacity, subst}
use Rattle.ds_world.specs.Run.{paired}
use Rattle.ds_world.proofs.HeadlineLemmas.{turns}
use Rattle.ds_world.proofs.LawLemmas.{laws_hold}
use Rattle.ds_world.proofs.ReplyLemmas.{replies_are_kept, messages_stay}
use Rattle.ds_world.proofs.world.World.run.Goals as goal

pub returns-clause-messages : goal.returns-clause-messages
returns-clause-messages c =
    let ran = c.happen_all-outcomes in (
      replies_are_kept c.args.self.now ran.new.self (paired c.args.events ran.result) ran.ensures.told,
      messages_stay c.args.self.now
          ran.new.self (paired c.args.events ran.result) ran.ensures.told,
    )

pub returns-clause-laws : goal.returns-clause-laws
returns-clause-laws c =
    let says = c.answers_say.ensures in
    let ran = c.happen_all-outcomes in
    laws_hold says.snapped says.paged says.journaled c.args.self.now ran.new.self (paired c.args.events ran.result) ran.ensures.told
    c.maps_proof.ensures

pub returns-clause-turns : goal.returns-clause-turns
returns-clause-turns c =
    let ran = c.happen_all-outcomes in turns c.args.self.now ran.new.self (paired c.args.events ran.result) ran.ensures.told

pub returns-clause-one_each : goal.returns-clause-one_each
returns-clause-one_each c = c.happen_all-outcomes.ensures.one_each

pub returns-clause-done : goal.returns-clause-done
returns-clause-done c = c.happen_all-outcomes.ensures.done

pub returns-clause-told : goal.returns-clause-told
returns-clause-told c = c.happen_all-outcomes.ensures.told

pub returns-clause-few : goal.returns-clause-few
returns-clause-few c = subst (λ n. n ≤ 65536) c.len.ensures c.if-len-gt-MOST_EVENTS.false

pub happen_all-outcomes-requires-clause-none : goal.happen_all-outcomes-requires-clause-none
happen_all-outcomes-requires-clause-none c = c.in-Ok.ensures.items

pub happen_all-outcomes-requires-clause-room : goal.happen_all-outcomes-requires-clause-room
happen_all-outcomes-requires-clause-room c = subst (λ n. n ≤ vec_capacity c.in-Ok.outcomes) c.len-2.ensures c.in-Ok.ensures.capacity

pub returns-then-len-gt-MOST_EVENTS-clause-refused : goal.returns-then-len-gt-MOST_EVENTS-clause-refused
returns-then-len-gt-MOST_EVENTS-clause-refused c = subst (λ n. 65536 < n) c.len.ensures c.if-len-gt-MOST_EVENTS.true

pub returns-in_default-clause-refused : goal.returns-in_default-clause-refused
returns-in_default-clause-refused c = subst (λ n. n ≤ 65536) c.len.ensures c.if-len-gt-MOST_EVENTS.false
