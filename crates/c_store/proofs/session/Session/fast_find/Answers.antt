use Rattle.std.proofs.Common.{subst, refl, Some, None}
use Rattle.ds_entry.specs.declared.body.Value.{Value}
use Rattle.ds_entry.specs.declared.body.Value.TheVariants.{U32}
use Rattle.ds_machine.specs.declared.command.Command.TheVariants.{Retrieve}
use Rattle.ds_machine.specs.declared.refusal.Refusal.TheVariants.{NotFound}
use Rattle.ds_machine.specs.declared.reply.Reply.TheVariants.{Found, Refused}
use Rattle.ds_store.specs.Turns.{Turn}
use Rattle.ds_store.proofs.FindLemmas.{retrieve_turn}
use Rattle.c_store.specs.Kept.{copy_reply}
use Rattle.c_store.proofs.CalledLemmas.{told_so, copied_turn}
use Rattle.c_store.proofs.session.Session.fast_find.Goals as goal

pub returns-in-Some-U32 : goal.returns-in-Some-U32
returns-in-Some-U32 c =
    let v = c.store-store.result.now in
    let lent = c.in-Some-U32.field-0.now in
    told_so c.args.self.now c.args.self.now c.tell.new.self c.tell.new.answer (Retrieve c.args.key.now) (Found (U32 c.in-Some-U32.number))
    refl v c.store-store.ensures
    (subst (λ (x : Value). Turn v (Retrieve c.args.key.now) (Found x) v) c.in-Some-U32.field-0-is
    (retrieve_turn v c.args.key.now (Some lent) c.cursor-stood.ensures.stood c.in-Some-U32.ensures.live))
    c.tell.ensures

pub returns-in-Some : goal.returns-in-Some
returns-in-Some c =
    told_so c.args.self.now c.args.self.now c.tell_copy.new.self c.tell_copy.new.answer (Retrieve c.args.key.now)
    (copy_reply c.copy-copied.result) refl c.store-store.result.now c.store-store.ensures
    (copied_turn c.store-store.result.now c.args.key.now c.in-Some.value.now c.copy-copied.result c.cursor-stood.ensures.stood
    c.in-Some.ensures.live c.copy-copied.ensures.same c.copy-copied.ensures.room)
    c.tell_copy.ensures

pub returns-in-None : goal.returns-in-None
returns-in-None c =
    told_so c.args.self.now c.args.self.now c.tell-in-None.new.self c.tell-in-None.new.answer (Retrieve c.args.key.now) (Refused NotFound)
    refl c.store-store.result.now c.store-store.ensures
    (retrieve_turn c.store-store.result.now c.args.key.now None c.cursor-stood.ensures.stood c.in-None.ensures.live)
    c.tell-in-None.ensures
