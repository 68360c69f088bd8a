use Rattle.std.proofs.Common.{◌≤◌, All, ◌≡◌, ◌<◌, ◌++◌, ◌∷◌, [], List, length, refl, ap, sym, ◌∙◌, subst, arith}
use Rattle.std.proofs.lemmas.List.Elements.{All-push}
use Rattle.ds_replica.specs.declared.outcome.Outcome.TheVariants.{Refused, Replied, Made}
use Rattle.ds_replica.specs.declared.outcome.EventFault.TheVariants.{MessagesFull, NoRoom}
use Rattle.ds_world.specs.World.{HasItems, WorldRecord, world_of}
use Rattle.ds_machine.specs.declared.reply.Reply.{Reply}
use Rattle.ds_replica.specs.declared.event.Event.TheVariants.{Ask}
use Rattle.ds_replica.specs.Happens.{items_given}
use Rattle.ds_world.specs.Run.{EventLeads}
use Rattle.ds_world.specs.Told.{IsAskTold}
use Rattle.ds_world.proofs.AskLemmas.{messages_full, no_room_for_message, replied, replied_so, made, made_so, few_free, no_items}
use Rattle.ds_world.proofs.AskLemmas.{some_items}
use Rattle.ds_world.proofs.world.World.ask_for_items.Goals as goal

pub returns-then-has_items-clause-leads : goal.returns-then-has_items-clause-leads
returns-then-has_items-clause-leads c =
    let ask = Ask c.args.side c.args.command in
    let messages = c.self.inside.messages.items in
    let maps = c.self.inside.maps.items in
    let a = c.apply-reply.new.a in
    let b = c.apply-reply.new.b in
    let reply = c.apply-reply.result in
    let items = some_items (items_given reply) c.if-has_items.ensures in
    let many : length messages ≡ c.len-message.result = omega (arith, c.len-message.ensures, c.self.inside.messages.ok.0) in
    let few : length messages < 65536 = omega (arith, many, c.if-message-ge-MOST_MESSAGES.false) in
    let went = made c.self.inside.a c.self.inside.b a b maps messages c.args.side c.args.command reply c.apply-reply.ensures.step items.0
    items.1 c.requires few in
    let more = c.keep.ensures ∙ ap (λ (l : List Reply). l ++ reply ∷ []) c.reserve.ensures.items in
    subst (λ n. EventLeads ask (Made n) c.args.self.now (world_of a b maps c.keep.new.messages.items)) many
    (subst (λ (l : List Reply). EventLeads ask (Made (length messages)) c.args.self.now (world_of a b maps l)) (sym more)
    (subst (λ (v : WorldRecord). EventLeads ask (Made (length messages)) v (world_of a b maps (messages ++ reply ∷ []))) c.self.view_is
    went))

pub returns-then-has_items-clause-told : goal.returns-then-has_items-clause-told
returns-then-has_items-clause-told c =
    let messages = c.self.inside.messages.items in
    let maps = c.self.inside.maps.items in
    let a = c.apply-reply.new.a in
    let b = c.apply-reply.new.b in
    let reply = c.apply-reply.result in
    let items = some_items (items_given reply) c.if-has_items.ensures in
    let many : length messages ≡ c.len-message.result = omega (arith, c.len-message.ensures, c.self.inside.messages.ok.0) in
    let few : length messages < 65536 = omega (arith, many, c.if-message-ge-MOST_MESSAGES.false) in
    let told = made_so c.self.inside.a c.self.inside.b a b maps messages c.args.side c.args.command reply c.apply-reply.ensures.step
    items.0 items.1 c.requires few c.apply-reply.ensures.last in
    let more = c.keep.ensures ∙ ap (λ (l : List Reply). l ++ reply ∷ []) c.reserve.ensures.items in
    subst (λ n. IsAskTold c.args.side c.args.command (Made n) c.args.self.now (world_of a b maps c.keep.new.messages.items)) many
    (subst (λ (l : List Reply). IsAskTold c.args.side c.args.command (Made (length messages)) c.args.self.now (world_of a b maps l))
    (sym more)
    (subst (λ (v : WorldRecord). IsAskTold c.args.side c.args.command (Made (length messages)) v
    (world_of a b maps (messages ++ reply ∷ []))) c.self.view_is told))

pub returns-clause-leads : goal.returns-clause-leads
returns-clause-leads c =
    let ask = Ask c.args.side c.args.command in
    let messages = c.self.inside.messages.items in
    let maps = c.self.inside.maps.items in
    let a = c.apply-reply.new.a in
    let b = c.apply-reply.new.b in
    let reply = c.apply-reply.result in
    let few : length messages < 65536 = omega
    (arith, c.len-message.ensures, c.self.inside.messages.ok.0, c.if-message-ge-MOST_MESSAGES.false) in
    let went = replied c.self.inside.a c.self.inside.b a b maps messages c.args.side c.args.command reply c.apply-reply.ensures.step
    (few_free c.args.command messages few) (no_items (items_given reply) c.if-has_items.ensures) in
    subst (λ (l : List Reply). EventLeads ask (Replied reply) c.args.self.now (world_of a b maps l)) (sym c.reserve.ensures.items)
    (subst (λ (v : WorldRecord). EventLeads ask (Replied reply) v (world_of a b maps messages)) c.self.view_is went)

pub returns-clause-told : goal.returns-clause-told
returns-clause-told c =
    let messages = c.self.inside.messages.items in
    let maps = c.self.inside.maps.items in
    let a = c.apply-reply.new.a in
    let b = c.apply-reply.new.b in
    let reply = c.apply-reply.result in
    let none = no_items (items_given reply) c.if-has_items.ensures in
    let few : length messages < 65536 = omega
    (arith, c.len-message.ensures, c.self.inside.messages.ok.0, c.if-message-ge-MOST_MESSAGES.false) in
    let told = replied_so c.self.inside.a c.self.inside.b a b maps messages c.args.side c.args.command reply c.apply-reply.ensures.step
    (few_free c.args.command messages few) none c.apply-reply.ensures.last in
    subst (λ (l : List Reply). IsAskTold c.args.side c.args.command (Replied reply) c.args.self.now (world_of a b maps l))
    (sym c.reserve.ensures.items)
    (subst (λ (v : WorldRecord). IsAskTold c.args.side c.args.command (Replied reply) v (world_of a b maps messages)) c.self.view_is
    (told, refl))

pub returns-then-message-ge-MOST_MESSAGES-clause-leads : goal.returns-then-message-ge-MOST_MESSAGES-clause-leads
returns-then-message-ge-MOST_MESSAGES-clause-leads c =
    let inside = c.self.inside in
    let value : WorldRecord = world_of inside.a inside.b inside.maps.items inside.messages.items in
    let full : 65536 ≤ length inside.messages.items =
    omega (arith, c.len-message.ensures, inside.messages.ok.0, c.if-message-ge-MOST_MESSAGES.true) in
    subst (λ (v : WorldRecord). EventLeads (Ask c.args.side c.args.command) (Refused MessagesFull) v v) c.self.view_is
    (messages_full value c.args.side c.args.command c.requires full)

pub returns-then-message-ge-MOST_MESSAGES-clause-told : goal.returns-then-message-ge-MOST_MESSAGES-clause-told
returns-then-message-ge-MOST_MESSAGES-clause-told c = refl

pub returns-in_default-clause-leads : goal.returns-in_default-clause-leads
returns-in_default-clause-leads c =
    let ask = Ask c.args.side c.args.command in
    let inside = c.self.inside in
    let messages = inside.messages.items in
    let value : WorldRecord = world_of inside.a inside.b inside.maps.items messages in
    let few : length messages < 65536 = omega (arith, c.len-message.ensures, inside.messages.ok.0, c.if-message-ge-MOST_MESSAGES.false) in
    subst (λ (l : List Reply). EventLeads ask (Refused NoRoom) c.args.self.now (world_of inside.a inside.b inside.maps.items l))
    (sym c.reserve.ensures.items)
    (subst (λ (v : WorldRecord). EventLeads ask (Refused NoRoom) v value) c.self.view_is
    (no_room_for_message value c.args.side c.args.command c.requires few))

pub returns-in_default-clause-told : goal.returns-in_default-clause-told
returns-in_default-clause-told c = c.reserve.ensures.items ∙ ap (λ (v : WorldRecord). v.messages) c.self.view_is

pub invariant_of-self : goal.invariant_of-self
invariant_of-self c = (c.self.invariant.0, subst (All HasItems) (sym c.reserve.ensures.items) c.self.invariant.1)

pub invariant_of-self-then-has_items : goal.invariant_of-self-then-has_items
invariant_of-self-then-has_items c =
    let messages = c.self.inside.messages.items in
    let reply = c.apply-reply.result in
    let more = c.keep.ensures ∙ ap (λ (l : List Reply). l ++ reply ∷ []) c.reserve.ensures.items in
    (c.self.invariant.0, subst (All HasItems) (sym more) (All-push HasItems messages reply c.self.invariant.1 (sym c.if-has_items.ensures)))

pub invariant_of-self-else-has_items : goal.invariant_of-self-else-has_items
invariant_of-self-else-has_items c = (c.self.invariant.0, subst (All HasItems) (sym c.reserve.ensures.items) c.self.invariant.1)
