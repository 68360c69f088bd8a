use Rattle.std.proofs.Common.{inl, inr}
use Rattle.ds_machine.specs.declared.command.Command.TheVariants.{Retrieve}
use Rattle.c_store.proofs.CalledLemmas.{answered, stands_for_retrieve, stands_for_no_retrieve}
use Rattle.c_store.proofs.session.Session.fast_retrieve.Goals as goal

pub returns-in_default : goal.returns-in_default
returns-in_default c = λ text. inr (inl (stands_for_no_retrieve c.args.request.now text c.requires c.in_default.ensures, c.decline.ensures))

pub returns : goal.returns
returns c = λ text.
    answered c.args.self.now c.fast_find.new.self c.args.request.now text c.fast_find.new.answer (Retrieve c.in-Some.key)
    (stands_for_retrieve c.args.request.now text c.in-Some.key c.requires c.in-Some.ensures) c.fast_find.ensures
