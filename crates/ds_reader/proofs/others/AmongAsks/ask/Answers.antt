use Rattle.ds_reader.proofs.others.AmongAsks.ask.Goals as goal

pub returns-clause-asked : goal.returns-clause-asked
returns-clause-asked g c = λ s stands.
    let o = c.ask.ensures s stands in
    let x = c.apply.ensures.step o.0 o.2 in (
      x.0,
      record {
        mid = o.0;
        went = record { reached = stands.reached; goes = o.1 };
        answered = record { step = x.1; last = c.apply.ensures.last o.0 o.2 };
      },
      x.2,
    )

pub returns-clause-once : goal.returns-clause-once
returns-clause-once g c = (
  _,
  c.ask.ensures,
  (
    c.apply.result,
    λ s stands.
        (let x = c.apply.ensures.step s stands in
        (x.0, record { step = x.1; last = c.apply.ensures.last s stands }, x.2)),
  ),
)
