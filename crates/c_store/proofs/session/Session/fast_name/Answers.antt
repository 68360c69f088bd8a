use Rattle.std.proofs.Common.{refl, sym, ◌∙◌}
use Rattle.ds_machine.specs.declared.command.Command.TheVariants.{NameOf}
use Rattle.ds_machine.specs.declared.refusal.Refusal.TheVariants.{NotFound}
use Rattle.ds_machine.specs.declared.reply.Reply.TheVariants.{Named, Refused}
use Rattle.ds_store.proofs.FindLemmas.{name_turn}
use Rattle.c_store.proofs.CalledLemmas.{told_so, nameless_turn}
use Rattle.c_store.proofs.session.Session.fast_name.Goals as goal

pub returns-in-Some : goal.returns-in-Some
returns-in-Some c =
    let mid = c.let_go.new.self in
    let name = c.in-Some.name.now in
    told_so c.args.self.now mid (record mid { last = c.overwrite.new.kept }) c.named.result (NameOf c.args.endpoint) (Named name)
    c.let_go.ensures.node c.store-store.result.now c.store-store.ensures
    (name_turn c.store-store.result.now c.args.endpoint name c.cursor-stood.ensures.stood c.in-Some.ensures)
    (record { told_is = c.named.ensures name; node_is = refl; kept = c.overwrite.ensures })

pub returns-in-None : goal.returns-in-None
returns-in-None c =
    let mid = c.let_go.new.self in
    told_so c.args.self.now mid c.tell.new.self c.tell.new.answer (NameOf c.args.endpoint) (Refused NotFound) c.let_go.ensures.node
    c.store-store.result.now c.store-store.ensures
    (nameless_turn c.store-store.result.now c.args.endpoint c.cursor-stood.ensures.stood c.in-None.ensures
    (sym c.is_rs.ensures ∙ c.if-is_rs.false))
    c.tell.ensures
