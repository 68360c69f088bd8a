use Rattle.std.proofs.Common.{◌≡◌, List, [], ◌∷◌, ◌++◌, Ok, sym, ap, ◌∙◌, subst}
use Rattle.std.specs.List.{slice_set}
use Rattle.ds_entry.specs.Change.{ChangeRecord, change_of, IsChange}
use Rattle.ds_entry.specs.declared.body.Body.{Body}
use Rattle.ds_machine.specs.declared.command.Command.{Command}
use Rattle.rs_core.specs.Numbering.{NumbererRecord, Gives}
use Rattle.ds_replica.specs.declared.event.Event.TheVariants.{Ask}
use Rattle.ds_replica.specs.declared.outcome.Outcome.TheVariants as results
use Rattle.ds_replica.specs.Happens.{gives_items}
use Rattle.ds_world.specs.Run.{EventLeads}
use Rattle.ds_world.specs.Told.{IsTold}
use Rattle.rs_to_store.specs.Asked.{asking_for}
use Rattle.ds_system.specs.declared.outcome.SystemFault.TheVariants as refusals
use Rattle.ds_system.specs.declared.outcome.SystemOutcome.TheVariants.{Replied, Refused}
use Rattle.ds_system.specs.Drawing.{judged, numbers_left}
use Rattle.ds_system.specs.Stands.{SystemRecord, system_of, SystemEventLeads}
use Rattle.ds_system.specs.Effects.{instance_at, write_event}
use Rattle.ds_system.proofs.ServeLemmas.{asking_plain}
use Rattle.ds_system.proofs.WriteLemmas.{write_refused, write_wanting, wrote}
use Rattle.ds_system.proofs.system.System.write.Goals as goal

pub returns-in-Err : goal.returns-in-Err
returns-in-Err c = write_refused c.args.self.now c.args.label c.args.key.now c.args.side c.args.content c.in-Err.fault
    c.in-Err.ensures.refused

pub returns-in_default : goal.returns-in_default
returns-in_default c =
    let i = c.self.inside in
    let v = c.args.self.now in
    let same : system_of i.rs i.numberers.items i.world i.file i.net c.copy_with_room.new.made.items ≡ v =
    ap (λ (l : List ChangeRecord). system_of i.rs i.numberers.items i.world i.file i.net l) c.copy_with_room.ensures.items ∙
    c.self.view_is in
    subst (λ (w : SystemRecord). SystemEventLeads (write_event c.args.label c.args.key.now c.args.content c.args.side)
    (Refused refusals.NoRoom) v w) (sym same)
    (write_wanting v c.args.label c.args.key.now c.args.side c.args.content (instance_at c.in-Ok.draw.place c.in-Ok.draw.running)
    c.in-Ok.ensures.drawn)

pub reply-reply-requires : goal.reply-reply-requires
reply-reply-requires c = ap gives_items c.asking-command.ensures ∙
    asking_plain c.in-Ok.draw.running.endpoint c.args.key.now c.in-Ok-next.version c.args.content

pub returns : goal.returns
returns c =
    let i = c.self.inside in
    let key = c.args.key.now in
    let label = c.args.label in
    let content = c.args.content in
    let side = c.args.side in
    let it = instance_at c.in-Ok.draw.place c.in-Ok.draw.running in
    let number = c.in-Ok-next.version in
    let left = c.next.new.self in
    let v = system_of i.rs i.numberers.items i.world i.file i.net i.made.items in
    let is : judged i.rs i.numberers.items label key content ≡ Ok it =
    subst (λ (v : SystemRecord). judged v.rs v.numberers label key content ≡ Ok it) (sym c.self.view_is) c.in-Ok.ensures.drawn in
    let drawn : Gives (numbers_left i.numberers.items it) left number =
    subst (λ (v : SystemRecord). Gives (numbers_left v.numberers it) left number) (sym c.self.view_is)
    (subst (λ (n : NumbererRecord). Gives n left number) c.in-Ok.ensures.numbers c.in-Ok-next.ensures.given) in
    let one : c.entry.result ≡ change_of key label number content =
    c.entry.ensures.made ∙ ap (λ (b : Body). change_of key label number b) c.in-Ok-copy_with_room.ensures.copy in
    let made : c.push_reserved.new.self.items ≡ i.made.items ++ change_of key label number content ∷ [] =
    c.push_reserved.ensures.items ∙ (ap (λ (l : List ChangeRecord). l ++ c.entry.result ∷ []) c.copy_with_room.ensures.items ∙
    ap (λ (x : ChangeRecord). i.made.items ++ x ∷ []) one) in
    let change : IsChange (change_of key label number content) =
    subst (λ (b : Body). IsChange (change_of key label number b)) c.in-Ok-copy_with_room.ensures.copy c.entry.ensures.change in
    let leads : EventLeads (Ask side (asking_for it.running.endpoint key number content)) (results.Replied c.reply-reply.result) i.world
    c.reply-reply.new.self =
    subst (λ (x : Command). EventLeads (Ask side x) (results.Replied c.reply-reply.result) i.world c.reply-reply.new.self)
    c.asking-command.ensures c.reply-reply.ensures.leads in
    let told : IsTold (Ask side (asking_for it.running.endpoint key number content)) (results.Replied c.reply-reply.result) i.world
    c.reply-reply.new.self =
    subst (λ (x : Command). IsTold (Ask side x) (results.Replied c.reply-reply.result) i.world c.reply-reply.new.self)
    c.asking-command.ensures c.reply-reply.ensures.told in
    subst
    (λ (v : SystemRecord).
    SystemEventLeads (write_event label key content side) (Replied c.reply-reply.result) v
    (system_of i.rs (slice_set i.numberers.items it.place left) c.reply-reply.new.self i.file i.net
    c.push_reserved.new.self.items))
    c.self.view_is
    (subst (λ (l : List ChangeRecord). SystemEventLeads (write_event label key content side) (Replied c.reply-reply.result) v
    (system_of i.rs (slice_set i.numberers.items it.place left) c.reply-reply.new.self i.file i.net l)) (sym made)
    (wrote v label key side content it number left c.reply-reply.result c.reply-reply.new.self is drawn change leads told))
