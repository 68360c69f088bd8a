use Rattle.std.proofs.Common.{refl, []}
use Rattle.ds_reader.proofs.asks.StoreAsks.ask.Goals as goal

pub returns-clause-asked : goal.returns-clause-asked
returns-clause-asked c = λ s stands.
    let x = c.apply.ensures.step s stands in (
      x.0,
      record {
        mid = s;
        went = record { reached = stands.reached; goes = record { commands = []; replies = []; run = refl } };
        answered = record { step = x.1; last = c.apply.ensures.last s stands };
      },
      x.2,
    )

pub returns-clause-once : goal.returns-clause-once
returns-clause-once c = (
  c.apply.result,
  λ s stands.
      (let x = c.apply.ensures.step s stands in
      (x.0, record { step = x.1; last = c.apply.ensures.last s stands }, x.2)),
)
