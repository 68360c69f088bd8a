use Rattle.std.proofs.Common.{◌≡◌, ◌&&◌, ◌∷◌, [], nat_le, false, length, refl, sym, subst}
use Rattle.ds_entry.proofs.Members.{Contains-single}
use Rattle.ds_entry.specs.Item.{IsItem}
use Rattle.ds_machine.specs.declared.command.Command.{Command}
use Rattle.ds_machine.specs.declared.command.Command.TheVariants.{Merge}
use Rattle.ds_replica.specs.declared.event.Event.TheVariants.{Ask}
use Rattle.ds_replica.specs.declared.outcome.Outcome.TheVariants.{Replied}
use Rattle.ds_replica.specs.Happens.{gives_items, most_messages}
use Rattle.ds_world.specs.World.{WorldRecord, world_of}
use Rattle.ds_world.specs.Run.{EventLeads}
use Rattle.ds_world.specs.Told.{IsTold}
use Rattle.ds_world.proofs.AskLemmas.{replied, replied_so, none_given}
use Rattle.ds_world.proofs.world.World.fast_offer.Goals as goal

pub returns-clause-leads : goal.returns-clause-leads
returns-clause-leads c =
    let messages = c.self.inside.messages.items in
    let maps = c.self.inside.maps.items in
    let command : Command = Merge (c.args.item.now ∷ []) in
    let free : gives_items command && nat_le most_messages (length messages) ≡ false = refl in
    subst (λ (v : WorldRecord). EventLeads (Ask c.args.side command) (Replied c.merge_one.result) v
    (world_of c.merge_one.new.a c.merge_one.new.b maps messages)) c.self.view_is
    (replied c.self.inside.a c.self.inside.b c.merge_one.new.a c.merge_one.new.b maps messages c.args.side command c.merge_one.result
    c.merge_one.ensures.step free (none_given command c.merge_one.result refl c.merge_one.ensures.fits))

pub returns-clause-told : goal.returns-clause-told
returns-clause-told c =
    let messages = c.self.inside.messages.items in
    let maps = c.self.inside.maps.items in
    let command : Command = Merge (c.args.item.now ∷ []) in
    let free : gives_items command && nat_le most_messages (length messages) ≡ false = refl in
    let none = none_given command c.merge_one.result refl c.merge_one.ensures.fits in
    subst (λ (v : WorldRecord). IsTold (Ask c.args.side command) (Replied c.merge_one.result) v
    (world_of c.merge_one.new.a c.merge_one.new.b maps messages)) c.self.view_is (
      (λ i k. subst IsItem (sym (Contains-single c.args.item.now i k)) c.item_proof.ensures),
      (
        replied_so c.self.inside.a c.self.inside.b c.merge_one.new.a c.merge_one.new.b maps messages c.args.side command c.merge_one.result
            c.merge_one.ensures.step free none c.merge_one.ensures.last,
        refl,
      ),
    )
