use Rattle.c_values.specs.Asked.{request_text}
use Rattle.c_store.proofs.CalledLemmas.{called}
use Rattle.c_store.proofs.session.Session.call.Goals as goal

pub returns-in-Some : goal.returns-in-Some
returns-in-Some c = called c.args.self.now c.call_with.new.self c.args.request.now (request_text c.args.request.now c.args.texts.now)
    c.in-Some.text.now c.call_with.new.answer c.in-Some.ensures c.call_with.ensures
