use Rattle.std.proofs.Common.{Some, sym, ◌∙◌}
use Rattle.ds_machine.specs.Asking.{change_asked}
use Rattle.ds_store.specs.Asked.{request_of}
use Rattle.ds_store.proofs.MadeLemmas.{void_by_epoch}
use Rattle.ds_store.proofs.asked.is_void_under.Goals as goal

pub returns-then-not-is_label : goal.returns-then-not-is_label
returns-then-not-is_label c = λ caller body.
    void_by_epoch c.args.floor c.in-Some.floor c.in-Some.is (change_asked (Some caller) (request_of c.args.asked.now) body)
    (sym c.is_label.ensures.value ∙ c.if-not-is_label.true)
    c.number.result c.number-then-not-is_label.result c.number.ensures.value c.number-then-not-is_label.ensures.value
