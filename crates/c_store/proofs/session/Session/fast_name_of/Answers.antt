use Rattle.std.proofs.Common.{inl, inr}
use Rattle.ds_machine.specs.declared.command.Command.TheVariants.{NameOf}
use Rattle.c_store.proofs.CalledLemmas.{answered, stands_for_name, stands_for_no_name}
use Rattle.c_store.proofs.session.Session.fast_name_of.Goals as goal

pub returns-in_default : goal.returns-in_default
returns-in_default c = λ text. inr (inl (stands_for_no_name c.args.request.now text c.requires c.in_default.ensures, c.decline.ensures))

pub returns : goal.returns
returns c = λ text.
    answered c.args.self.now c.fast_name.new.self c.args.request.now text c.fast_name.new.answer (NameOf c.in-Some.endpoint)
    (stands_for_name c.args.request.now text c.in-Some.endpoint c.requires c.in-Some.ensures) c.fast_name.ensures
