use Rattle.std.proofs.Common.{◌≡◌, ◌&&◌, nat_le, false, length, refl, ap, subst}
use Rattle.ds_replica.specs.declared.event.Event.TheVariants.{Ask}
use Rattle.ds_replica.specs.declared.outcome.Outcome.TheVariants.{Replied}
use Rattle.ds_replica.specs.Happens.{gives_items, most_messages}
use Rattle.ds_world.specs.World.{WorldRecord, world_of}
use Rattle.ds_world.specs.Run.{EventLeads}
use Rattle.ds_world.specs.Told.{IsTold}
use Rattle.ds_world.proofs.AskLemmas.{replied, replied_so, none_given}
use Rattle.ds_world.proofs.world.World.reply.Goals as goal

pub returns-clause-leads : goal.returns-clause-leads
returns-clause-leads c =
    let messages = c.self.inside.messages.items in
    let maps = c.self.inside.maps.items in
    let none : gives_items c.args.command ≡ false = c.requires in
    let free : gives_items c.args.command && nat_le most_messages (length messages) ≡ false =
    ap (λ x. x && nat_le most_messages (length messages)) none in
    subst (λ (v : WorldRecord). EventLeads (Ask c.args.side c.args.command) (Replied c.apply.result) v
    (world_of c.apply.new.a c.apply.new.b maps messages)) c.self.view_is
    (replied c.self.inside.a c.self.inside.b c.apply.new.a c.apply.new.b maps messages c.args.side c.args.command c.apply.result
    c.apply.ensures.step free (none_given c.args.command c.apply.result none c.apply.ensures.fits))

pub returns-clause-told : goal.returns-clause-told
returns-clause-told c =
    let messages = c.self.inside.messages.items in
    let maps = c.self.inside.maps.items in
    let gives : gives_items c.args.command ≡ false = c.requires in
    let free : gives_items c.args.command && nat_le most_messages (length messages) ≡ false =
    ap (λ x. x && nat_le most_messages (length messages)) gives in
    let none = none_given c.args.command c.apply.result gives c.apply.ensures.fits in
    subst (λ (v : WorldRecord). IsTold (Ask c.args.side c.args.command) (Replied c.apply.result) v
    (world_of c.apply.new.a c.apply.new.b maps messages)) c.self.view_is (
      c.command_proof.ensures,
      (
        replied_so c.self.inside.a c.self.inside.b c.apply.new.a c.apply.new.b maps messages c.args.side
            c.args.command c.apply.result c.apply.ensures.step free none c.apply.ensures.last,
        refl,
      ),
    )
