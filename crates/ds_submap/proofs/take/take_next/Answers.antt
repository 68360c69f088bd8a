use Rattle.std.proofs.lemmas.Result.{IfErr-weaker}
use Rattle.ds_pattern.specs.declared.query.Query.{Query}
use Rattle.ds_submap.specs.Take.{IsTesterFor, IsRefusedUnder}
use Rattle.ds_submap.proofs.take.take_next.Goals as goal

pub returns-in-None-clause-refused : goal.returns-in-None-clause-refused
returns-in-None-clause-refused c =
    IfErr-weaker c.raise_or_pass.result (λ fault. (q : Query) → IsRefusedUnder q c.args.held.now c.args.item.now fault)
    (λ fault. (q : Query) → IsTesterFor q c.args.asker.now c.args.item.now → IsRefusedUnder q c.args.held.now c.args.item.now fault)
    (λ fault h q a. h q) c.raise_or_pass.ensures.refused
